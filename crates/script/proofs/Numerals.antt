-- A number at the front of a list, and its digits. Assumes nothing.
use Rattle.std.proofs.Common.{◌≡◌, ℕ, ◌<◌, ◌≤◌, List, ◌∷◌, ◌++◌, length, take, drop, Ok, Err, Option, Result, sym, ap, ◌∙◌, subst, arith, take-append-drop, rules, MatchOption}
use Rattle.std.specs.Char.{IsAsciiDigit}
use Rattle.std.specs.List.{All}
use Rattle.std.specs.Result.{result_ok}
use Rattle.std.specs.Str.{IsUtf8}
use Rattle.std.specs.Str.Parse.{ParsesUnsigned}
use Rattle.std.proofs.lemmas.List.Elements.{All-nil, All-cons, All-head, All-tail, All-weaker}
use Rattle.std.proofs.lemmas.Str.{IsUtf8-from_ascii}
use Rattle.std.proofs.lemmas.Str.Ascii.{IsAscii-from_all}
use Rattle.std.proofs.lemmas.Str.Parse.{IsDigitsTest, IsNumeralModel, numerals_by_fold, parse_digits}
use Rattle.script.specs.Spelling.{value_on, Number, Past, Next}
use Rattle.script.proofs.Lists.{front_once}

tests_digits : IsDigitsTest (All IsAsciiDigit)
tests_digits = record {
  empty = All-nil IsAsciiDigit;
  parts = λ c cs a. (All-head IsAsciiDigit c cs a, All-tail IsAsciiDigit c cs a);
  more = All-cons IsAsciiDigit;
}

own : IsNumeralModel (All IsAsciiDigit) (value_on 0)
own = numerals_by_fold _ tests_digits value_on (search rules)

pub digits_are_text : (ds : List ℕ) → All IsAsciiDigit ds → IsUtf8 ds
digits_are_text ds a = IsUtf8-from_ascii ds (IsAscii-from_all ds (All-weaker IsAsciiDigit (λ c. c < 128) (λ c d. omega arith) ds a))

-- what `parse` reads of at most five digits
pub parsed : {E : Type 0} (ds text : List ℕ) (r : Result ℕ E) (o : Option ℕ) → All IsAsciiDigit ds → length ds ≤ 5 → text ≡ ds → ParsesUnsigned 16 10 text r → o ≡ result_ok r
    → MatchOption o ((n : ℕ) → Number ds n → ⊥) (λ n. Number ds n)
parsed {E} ds text (Ok n) o a five same h is =
    let read = parse_digits own {E = E} 16 ds (Ok n) (subst (λ t. ParsesUnsigned {E = E} 16 10 t (Ok n)) same h) a in
    rw is (record { digits = a; some = read.0.0; five = five; value = read.1; small = omega (arith, read.0.1, read.1) })
parsed {E} ds text (Err f) o a five same h is =
    let none = parse_digits own {E = E} 16 ds (Err f) (subst (λ t. ParsesUnsigned {E = E} 16 10 t (Err f)) same h) a in
    rw is (λ n p. none (p.some, omega (arith, p.value, p.small)))

pub next_once : (bs : List ℕ) (m n : ℕ) (xs ys : List ℕ) → Next bs m xs → Next bs n ys → (m ≡ n) × (xs ≡ ys)
next_once bs m n xs ys p q =
    let cut = p.cut in
    let other = q.cut in
    let tail : p.ds ++ xs ≡ q.ds ++ ys = cc in
    let one = front_once IsAsciiDigit p.ds xs q.ds ys tail p.number.digits q.number.digits p.past q.past in
    (p.number.value ∙ ap (value_on 0) one.0 ∙ sym q.number.value, one.1)

-- no number comes next where the digits write none
pub no_next : (s t : List ℕ) (k : ℕ) → s ≡ 32 ∷ t → All IsAsciiDigit (take k t) → Past (drop k t) → ((n : ℕ) → Number (take k t) n → ⊥) → (n : ℕ) (after : List ℕ) → Next s n after → ⊥
no_next s t k e digits past none n after p =
    let cut = p.cut in
    let tail : t ≡ p.ds ++ after = cc in
    let same = (front_once IsAsciiDigit (take k t) (drop k t) p.ds after (take-append-drop k t ∙ tail) digits p.number.digits past p.past).0 in
    none n (subst (λ l. Number l n) (sym same) p.number)
