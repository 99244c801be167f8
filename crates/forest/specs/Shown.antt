-- What the tables of a bank mean.
--     lone_of L B e                  the lone number of the errand e
--     meaning L B                    what B means
use Rattle.std.specs.Prelude.{ℕ, ◌+◌, ◌*◌, false, cond, nat_lt}
use Rattle.forest.specs.declared.errand.Errand.{Errand}
use Rattle.forest.specs.declared.errand.Phase.{Phase}
use Rattle.forest.specs.declared.errand.Phase.TheVariants.{Idle, Grow, Fork, Read, Raise, Open, Settle, Look, Lower}
use Rattle.forest.specs.Agents.{cell, agent, doing_of}
use Rattle.forest.specs.Layouts.{Layout, out_at, zero?}
use Rattle.forest.specs.Ledgers.{job}
use Rattle.forest.specs.Lone.{lone}
use Rattle.banks.specs.Meaning.{Meaning}
use Rattle.forest.specs.Tables.{Tables, at}

-- n turns end a climb or a way down; before it stand the growth turns, and then at most 4 d + 2 at the greatest depth d
abbrev pub lone_by : Phase → ℕ → ℕ → ℕ
lone_by Idle d n = n
lone_by (Grow s c) d n = 4 * d + 4
lone_by (Fork s) d n = 4 * d + 3
lone_by Read d n = n
lone_by Raise d n = n
lone_by Open d n = n
lone_by Settle d n = n
lone_by Look d n = n
lone_by Lower d n = n

abbrev pub lone_of : Layout → Tables → Errand → ℕ
lone_of L B e = lone_by e.phase L.depth (lone (λ y. (at B.nodes y).depth) (λ z. cell (at B.nodes z).word) (agent e))

abbrev pub meaning : Layout → Tables → Meaning
meaning L B = record {
  tallies = B.tallies;
  opened = B.ledger.opened;
  bound = L.bound B;
  out = (λ t p. cond (nat_lt t B.ledger.opened) (out_at L B t p) 0);
  place = (λ t p. cond (nat_lt t B.ledger.opened) (L.takes B t p) false);
  doing = (λ a. doing_of (job B.ledger a));
  zero? = zero? L B;
  lone = (λ a. lone_of L B (job B.ledger a));
  limit = L.limit;
}
