-- The layouts of the three banks, and their first tables.
--     flat_layout, flat_first        a root alone for each of 256 tallies
--     fixed_layout, Laid ns          15 nodes for each: the parent of the place p is (p - 1) / 2, and 0 is the root
--     growing_layout, growing_first N     a table of N nodes, of which the first are roots
use Rattle.std.specs.Prelude.{◌≡◌, ℕ, ◌+◌, ◌-◌, ◌*◌, ◌/◌, ◌%◌, ◌<◌, min, Bool, cond, ◌&&◌, ◌||◌, ltb, List, length, replicate, Some, None, Option, ◌==◌, nat_eq, nat_le, nat_lt}
use Rattle.words.specs.Words.{blank}
use Rattle.forest.specs.declared.ledger.Ledger.{Ledger}
use Rattle.forest.specs.declared.node.Node.{Node}
use Rattle.forest.specs.Errands.{comer, grower}
use Rattle.forest.specs.Groves.{Grove}
use Rattle.forest.specs.Layouts.{Layout}
use Rattle.forest.specs.Ledgers.{first_ledger}
use Rattle.forest.specs.Tables.{Tables, no_node, at}

-- The flat bank

abbrev pub flat_layout : Layout
flat_layout = record {
  width = 1;
  depth = 0;
  growth = 0;
  limit = 3;
  first = (λ t. 0);
  base = (λ t. t);
  bound = (λ B. 1);
  has = (λ B t p. nat_eq p 0);
  takes = (λ B t p. nat_eq p 0);
  start = (λ a t p s c. comer t t (0, 0));
}

abbrev pub flat_tables : List Node → Ledger → Tables
flat_tables ns l = record { nodes = ns; ledger = l; tallies = 256; used = 256 }

abbrev pub flat_grove : List Node → Grove
flat_grove ns = record { nodes = ns; tallies = 256; used = 256 }

abbrev pub flat_first : Tables
flat_first = flat_tables (replicate 256 no_node) first_ledger

-- The fixed bank

-- an arrival starts at one of the eight leaves, by its agent
abbrev pub leaf : ℕ → ℕ → ℕ
leaf a t = 15 * t + (7 + a % 8)

abbrev pub fixed_layout : Layout
fixed_layout = record {
  width = 15;
  depth = 3;
  growth = 0;
  limit = 84;
  first = (λ t. 0);
  base = (λ t. 15 * t);
  bound = (λ B. 15);
  has = (λ B t p. ltb p 15);
  takes = (λ B t p. nat_eq p 0);
  start = (λ a t p s c. comer t (leaf a t) (0, 0));
}

abbrev pub fixed_tables : List Node → Ledger → Tables
fixed_tables ns l = record { nodes = ns; ledger = l; tallies = 256; used = 3840 }

abbrev pub fixed_grove : List Node → Grove
fixed_grove ns = record { nodes = ns; tallies = 256; used = 3840 }

abbrev pub fixed_parent : ℕ → ℕ → Option ℕ
fixed_parent t p = cond (p == 0) None (Some (15 * t + (p - 1) / 2))

abbrev pub fixed_depth : ℕ → ℕ
fixed_depth p = cond (p == 0) 0 (cond (nat_le p 2) 1 (cond (nat_le p 6) 2 3))

-- the place p of the tally t
abbrev pub fixed_node : ℕ → ℕ → Node
fixed_node t p = record { word = blank; parent = fixed_parent t p; left = None; depth = fixed_depth p; tally = t; out = 0 }

abbrev pub Laid : List Node → Type 0
Laid ns = (length ns ≡ 3840) × ((i : ℕ) → i < 3840 → at ns i ≡ fixed_node (i / 15) (i % 15))

-- The growing bank

-- the root of t, or a node that was linked into its tree
abbrev pub in_tree : Tables → ℕ → ℕ → Bool
in_tree B t p = p == t || (nat_le B.tallies p && (nat_lt p B.used && (at B.nodes p).tally == t))

abbrev pub growing_layout : Layout
growing_layout = record {
  width = 1;
  depth = 16;
  growth = 1;
  limit = 1700;
  first = (λ t. t);
  base = (λ t. 0);
  bound = (λ B. length B.nodes);
  has = in_tree;
  takes = in_tree;
  start = (λ a t p s c. grower t p s c);
}

abbrev pub growing_tables : List Node → Ledger → ℕ → ℕ → Tables
growing_tables ns l T u = record { nodes = ns; ledger = l; tallies = T; used = u }

abbrev pub growing_grove : List Node → ℕ → ℕ → Grove
growing_grove ns T u = record { nodes = ns; tallies = T; used = u }

abbrev pub growing_first : ℕ → Tables
growing_first N = growing_tables (replicate N no_node) first_ledger (min 256 N) (min 256 N)
