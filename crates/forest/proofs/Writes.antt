-- Nodes after a turn: one word is written, and the receipt of an ended arrival is put out.
use Rattle.std.proofs.Common.{◌≡◌, ℕ, ◌+◌, ◌<◌, List, length, set, Some, None, Option, sym, refl, ap, ◌∙◌, subst, inl, inr, arith}
use Rattle.std.proofs.lemmas.Bool.{cases_eq}
use Rattle.std.proofs.lemmas.List.{length-set, get_or-set_same, get_or-set_other}
use Rattle.words.specs.declared.word.Word.{Word}
use Rattle.forest.specs.declared.errand.Said.{Said}
use Rattle.forest.specs.declared.errand.Said.TheVariants.{Going, Arrived, Departed}
use Rattle.forest.specs.declared.node.Node.{Node}
use Rattle.forest.specs.Agents.{said_of, written}
use Rattle.forest.specs.Climb.{receipt}
use Rattle.banks.specs.Counting.{put}
use Rattle.forest.specs.Tables.{no_node, at, with_word, with_out, wrote, noted}
use Rattle.forest.proofs.ClimbAnswers.{Room}
use Rattle.forest.proofs.Counting.{one_same, one_other, put_back}
use Rattle.forest.proofs.Lists.{field_put, field_still}

wrote_size : (o : Option Word) (x : ℕ) (ns : List Node) → length (wrote o x ns) ≡ length ns
wrote_size None x ns = refl
wrote_size (Some w) x ns = length-set ns x _

noted_size : (b : Said) (ns : List Node) → length (noted b ns) ≡ length ns
noted_size Going ns = refl
noted_size (Arrived y) ns = length-set ns y _
noted_size (Departed d) ns = refl

pub size_after : (b : Said) (o : Option Word) (x : ℕ) (ns : List Node) → length (noted b (wrote o x ns)) ≡ length ns
size_after b o x ns = noted_size b (wrote o x ns) ∙ wrote_size o x ns

-- a field that no turn writes
module _ {A : Type 0} (f : Node → A) (words : (w : Word) (n : Node) → f (with_word w n) ≡ f n) (outs : (k : ℕ) (n : Node) → f (with_out k n) ≡ f n) where
  wrote_field : (o : Option Word) (x : ℕ) (ns : List Node) → x < length ns → (z : ℕ) → f (at (wrote o x ns) z) ≡ f (at ns z)
  wrote_field None x ns l z = refl
  wrote_field (Some w) x ns l z = field_still f ns x (with_word w (at ns x)) no_node l (words w (at ns x)) z

  noted_field : (b : Said) (ns : List Node) → Room (length ns) (said_of b) → (z : ℕ) → f (at (noted b ns) z) ≡ f (at ns z)
  noted_field Going ns l z = refl
  noted_field (Arrived y) ns l z = field_still f ns y (with_out ((at ns y).out + 1) (at ns y)) no_node l (outs ((at ns y).out + 1) (at ns y)) z
  noted_field (Departed d) ns l z = refl

room_after : (b : Said) (o : Option Word) (x : ℕ) (ns : List Node) → Room (length ns) (said_of b) → Room (length (wrote o x ns)) (said_of b)
room_after b o x ns r = subst (λ (k : ℕ). Room k (said_of b)) (sym (wrote_size o x ns)) r

module _ (b : Said) (o : Option Word) (x : ℕ) (ns : List Node) (in_x : x < length ns) (in_y : Room (length ns) (said_of b)) where
  pub field_after : {A : Type 0} (f : Node → A) → ((w : Word) (n : Node) → f (with_word w n) ≡ f n) → ((k : ℕ) (n : Node) → f (with_out k n) ≡ f n) → (z : ℕ)
      → f (at (noted b (wrote o x ns)) z) ≡ f (at ns z)
  field_after {A} f words outs z = noted_field f words outs b (wrote o x ns) (room_after b o x ns in_y) z ∙ wrote_field f words outs o x ns in_x z

wrote_word : (o : Option Word) (x : ℕ) (ns : List Node) → x < length ns → (z : ℕ) → (at (wrote o x ns) z).word ≡ put (λ z. (at ns z).word) x (written (at ns x).word o) z
wrote_word None x ns l z = ap (λ (g : ℕ → Word). g z) (sym (put_back (λ z. (at ns z).word) x))
wrote_word (Some w) x ns l z = field_put (λ (n : Node). n.word) ns x (with_word w (at ns x)) no_node l z

noted_word : (b : Said) (ns : List Node) → Room (length ns) (said_of b) → (z : ℕ) → (at (noted b ns) z).word ≡ (at ns z).word
noted_word Going ns l z = refl
noted_word (Arrived y) ns l z = field_still (λ (n : Node). n.word) ns y (with_out ((at ns y).out + 1) (at ns y)) no_node l refl z
noted_word (Departed d) ns l z = refl

noted_out : (b : Said) (ns : List Node) → Room (length ns) (said_of b) → (z : ℕ) → (at (noted b ns) z).out ≡ (at ns z).out + receipt (said_of b) z
noted_out Going ns l z = omega arith
noted_out (Departed d) ns l z = omega arith
noted_out (Arrived y) ns l z =
    let n : Node = with_out ((at ns y).out + 1) (at ns y) in
    elim (cases_eq y z) [
      | inl e ↦
          let i : (at (set ns y n) z).out ≡ (at ns z).out + 1 =
          subst (λ j. (at (set ns y n) j).out ≡ (at ns j).out + 1) e (ap (λ (m : Node). m.out) (get_or-set_same ns y n no_node l)) in
          omega (arith, one_same y z e)
      | inr q ↦
          let i : (at (set ns y n) z).out ≡ (at ns z).out = ap (λ (m : Node). m.out) (get_or-set_other ns y z n no_node (λ (k : z ≡ y). q (sym k))) in
          omega (arith, one_other y z q)
    ]

wrote_out : (o : Option Word) (x : ℕ) (ns : List Node) → x < length ns → (z : ℕ) → (at (wrote o x ns) z).out ≡ (at ns z).out
wrote_out None x ns l z = refl
wrote_out (Some w) x ns l z = field_still (λ (n : Node). n.out) ns x (with_word w (at ns x)) no_node l refl z

-- a node that an answer names
abbrev pub At : ℕ → Said → Type 0
At z Going = ⊥
At z (Arrived y) = y ≡ z
At z (Departed d) = ⊥

noted_still : (b : Said) (ns : List Node) (z : ℕ) → (At z b → ⊥) → at (noted b ns) z ≡ at ns z
noted_still Going ns z n = refl
noted_still (Arrived y) ns z n = get_or-set_other ns y z _ no_node (λ (k : z ≡ y). n (sym k))
noted_still (Departed d) ns z n = refl

wrote_still : (o : Option Word) (x : ℕ) (ns : List Node) (z : ℕ) → (x ≡ z → ⊥) → at (wrote o x ns) z ≡ at ns z
wrote_still None x ns z n = refl
wrote_still (Some w) x ns z n = get_or-set_other ns x z _ no_node (λ (k : z ≡ x). n (sym k))

module _ (b : Said) (o : Option Word) (x : ℕ) (ns : List Node) where
  pub still_after : (z : ℕ) → (x ≡ z → ⊥) → (At z b → ⊥) → at (noted b (wrote o x ns)) z ≡ at ns z
  still_after z n m = noted_still b (wrote o x ns) z m ∙ wrote_still o x ns z n

  module _ (in_x : x < length ns) (in_y : Room (length ns) (said_of b)) where
    pub word_after : (z : ℕ) → (at (noted b (wrote o x ns)) z).word ≡ put (λ z. (at ns z).word) x (written (at ns x).word o) z
    word_after z = noted_word b (wrote o x ns) (room_after b o x ns in_y) z ∙ wrote_word o x ns in_x z

    pub out_after : (z : ℕ) → (at (noted b (wrote o x ns)) z).out ≡ (at ns z).out + receipt (said_of b) z
    out_after z = noted_out b (wrote o x ns) (room_after b o x ns in_y) z ∙ ap (λ (k : ℕ). k + receipt (said_of b) z) (wrote_out o x ns in_x z)
