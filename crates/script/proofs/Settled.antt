-- Lines with the answers in the places of their calls. Assumes nothing.
use Rattle.std.proofs.Common.{◌≡◌, ℕ, ◌+◌, ◌<◌, List, [], ◌∷◌, ◌++◌, length, map, take, drop, set, get_or, Some, None, Ok, Err, Result, refl, ap, arith, append_assoc}
use Rattle.std.specs.List.{All, cons_option}
use Rattle.std.proofs.lemmas.List.{take_more_set, drop-set-lt, drop_more}
use Rattle.std.proofs.lemmas.List.Elements.{All-nil, All-cons}
use Rattle.engine.specs.declared.call.Answer.{Answer}
use Rattle.engine.specs.declared.call.Call.{Call}
use Rattle.engine.specs.declared.fault.EngineFault.{EngineFault}
use Rattle.script.specs.declared.fault.Fault.{Fault}
use Rattle.script.specs.declared.fault.Fault.TheVariants.{Engine}
use Rattle.script.specs.declared.line.Line.{Line}
use Rattle.script.specs.declared.line.Line.TheVariants.{Asks, Answered, Refused}
use Rattle.script.specs.Texts.{told_text, row}
use Rattle.script.specs.Settled.{spelled, answered, call_of, calls_of, settled, IsTold, page_of}
use Rattle.script.specs.Told.{calls_in, page_from}

told_answered : (a : Result Answer EngineFault) → IsTold (answered a)
told_answered (Ok a) = refl
told_answered (Err e) = refl

pub settled_told : (ls : List Line) (answers : List (Result Answer EngineFault)) → length answers ≡ length (calls_of ls) → All IsTold (settled ls answers)
settled_told [] answers e = All-nil IsTold
settled_told (Asks c ∷ ls) [] e = absurd (omega (arith, e))
settled_told (Asks c ∷ ls) (a ∷ answers) e = All-cons IsTold (answered a) (settled ls answers) (told_answered a) (settled_told ls answers (omega (arith, e)))
settled_told (Answered b ∷ ls) answers e = All-cons IsTold (Answered b) (settled ls answers) refl (settled_told ls answers e)
settled_told (Refused f ∷ ls) answers e = All-cons IsTold (Refused f) (settled ls answers) refl (settled_told ls answers e)

-- the line at i becomes y
settled_more : (ls : List Line) (i : ℕ) (d y : Line) (before after : List (Result Answer EngineFault)) → i < length ls
    → ((rest : List Line) → settled (get_or ls i d ∷ rest) before ≡ y ∷ settled rest after)
    → take (i + 1) (set ls i y) ++ settled (drop (i + 1) (set ls i y)) after ≡ take i ls ++ settled (drop i ls) before
settled_more ls i d y before after lt h =
    rw (take_more_set ls i y lt, drop-set-lt (i + 1) ls i y (omega arith), append_assoc, drop_more ls i d lt, h (drop (i + 1) ls)) refl

-- a line that asks nothing stays, and takes no answer
no_call : (l : Line) (rest : List Line) (answers : List (Result Answer EngineFault)) → ((c : Call) → l ≡ Asks c → ⊥) → (settled (l ∷ rest) answers ≡ l ∷ settled rest answers) × (call_of l ≡ None)
no_call (Asks c) rest answers h = absurd (h c refl)
no_call (Answered a) rest answers h = (refl, refl)
no_call (Refused f) rest answers h = (refl, refl)

-- the calls that are left, where the line at i becomes y
calls_more : (ls : List Line) (i : ℕ) (d y : Line) → i < length ls → calls_of (drop i ls) ≡ cons_option (call_of (get_or ls i d)) (calls_of (drop (i + 1) (set ls i y)))
calls_more ls i d y lt = rw (drop-set-lt (i + 1) ls i y (omega arith), drop_more ls i d lt) refl

-- the line at i has become y, and of the answers some are left
abbrev Comes : (ls : List Line) (i : ℕ) (y : Line) (before after : List (Result Answer EngineFault)) → Type 0
Comes ls i y before after =
    (take (i + 1) (set ls i y) ++ settled (drop (i + 1) (set ls i y)) after ≡ take i ls ++ settled (drop i ls) before)
    × (length (calls_of (drop (i + 1) (set ls i y))) ≡ length after)

pub call_answered : (ls : List Line) (i : ℕ) (d : Line) (c : Call) (a : Result Answer EngineFault) (before after : List (Result Answer EngineFault)) → i < length ls → get_or ls i d ≡ Asks c
    → before ≡ a ∷ after → length (calls_of (drop i ls)) ≡ length before → Comes ls i (answered a) before after
call_answered ls i d c a before after lt here taken level =
    let call : call_of (get_or ls i d) ≡ Some c = ap call_of here in
    let more = rw call at (calls_more ls i d (answered a) lt) in
    (settled_more ls i d (answered a) before after lt (λ rest. rw (here, taken) refl), omega (arith, level, ap length more, ap length taken))

pub line_kept : (ls : List Line) (i : ℕ) (d : Line) (answers : List (Result Answer EngineFault)) → i < length ls → ((c : Call) → get_or ls i d ≡ Asks c → ⊥)
    → length (calls_of (drop i ls)) ≡ length answers → Comes ls i (get_or ls i d) answers answers
line_kept ls i d answers lt other level =
    let l = get_or ls i d in
    let more = rw (no_call l [] answers other).1 at (calls_more ls i d l lt) in
    (settled_more ls i d l answers answers lt (λ rest. (no_call l rest answers other).0), omega (arith, level, ap length more))

pub spelled_calls : (rs : List (Result Call Fault)) → calls_of (map spelled rs) ≡ calls_in rs
spelled_calls [] = refl
spelled_calls (Ok c ∷ rs) = ap (λ cs. c ∷ cs) (spelled_calls rs)
spelled_calls (Err f ∷ rs) = spelled_calls rs

-- the page of the lines with their answers is that of what they spell
pub settled_page : (k : ℕ) (rs : List (Result Call Fault)) (answers : List (Result Answer EngineFault)) → page_of k (settled (map spelled rs) answers) ≡ page_from k rs answers
settled_page k [] answers = refl
settled_page k (Ok c ∷ rs) [] = refl
settled_page k (Ok c ∷ rs) (Ok a ∷ answers) = ap (λ t. row (told_text k (Ok a)) ++ t) (settled_page (k + 1) rs answers)
settled_page k (Ok c ∷ rs) (Err e ∷ answers) = ap (λ t. row (told_text k (Err (Engine e))) ++ t) (settled_page (k + 1) rs answers)
settled_page k (Err f ∷ rs) answers = ap (λ t. row (told_text k (Err f)) ++ t) (settled_page (k + 1) rs answers)
