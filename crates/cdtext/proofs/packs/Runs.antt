-- The run that the text of packs gives, and what is read where the bytes are its packs.
use mathlib.Core.Path.{◌≡◌, refl, sym, ap, ap₂, ◌∙◌}
use mathlib.Core.List.{List, ◌++◌}
use mathlib.Core.Bool.{Bool, true, false}
use Prim.Native.Nat.{ℕ, ◌+◌, ◌-◌, ◌*◌, ◌/◌, ◌%◌, ◌≤◌}
use native.Mathlib.Omega.{arith}
use lib.Dec.{leb, eqb}
use lib.ListN.{length, take, drop, replicate}
use lib.Seq.{take_at}
use borrow.Author.Tests.{leb-true, eqb-true}
use Rattle.std.specs.Prelude.{Result, Ok, Err, MatchResult}
use Rattle.mmc.specs.Refusals as F
use Rattle.mmc.specs.declared.refusals.Refusal as L
use Rattle.mmc.specs.Refusals.{pass, refuse, answer_of, buffer_of}
use Rattle.basics.specs.Bytes.{if}
use Rattle.std.proofs.lemmas.Bool.{and_parts}
use Rattle.basics.proofs.Lists.{zeros, drop_zeros}
use Rattle.cdtext.specs.Packs.{most_packs, longest_run, packs, text_in, trimmed, run_in, packs_size, are_bytes, is_packs, read_packs, Fills, ReadsPacks}
use Rattle.cdtext.specs.declared.refusals.Refusal.{Refusal}
use Rattle.cdtext.specs.declared.refusals.Refusal.TheVariants.{NoPacks, ShortBuffer}
use Rattle.cdtext.proofs.packs.Reading.{text_length, cut_under, one_more}
use Rattle.cdtext.proofs.packs.Laws.{made, reads_back}

-- what a length that packs can have says
pub sized : (n : ℕ) → packs_size n ≡ true → (72 ≤ n) × (n ≤ 18 * most_packs) × (n % 18 ≡ 0)
unfolding packs_size
sized n e =
    let w = and_parts (leb 72 n) _ e in
    let v = and_parts (leb n _) (eqb (n % 18) 0) w.1 in
    let h = leb-true n _ v.0 in
    (leb-true 72 n w.0, omega arith, eqb-true (n % 18) 0 v.1)

-- the reader's room for the longest text, and for one zero
abbrev room : ℕ
room = longest_run + 1

-- the text of all packs but the three last, over zeros
abbrev Gathered : List ℕ → List ℕ → Type 0
Gathered b text = text ≡ text_in (length b / 18 - 3) b ++ drop (12 * (length b / 18 - 3)) (replicate room 0)

-- its length without the zeros at its end
abbrev Trimmed : List ℕ → List ℕ → ℕ → Type 0
Trimmed b text e = e ≡ length (trimmed (take (12 * (length b / 18 - 3)) text))

trim_is : (b text : List ℕ) (e : ℕ) → packs_size (length b) ≡ true → Gathered b text → Trimmed b text e → e ≡ length (trimmed (text_in (length b / 18 - 3) b))
trim_is b text e s et ee =
    let w = sized (length b) s in
    let k : ℕ = length b / 18 - 3 in
    let f : take (12 * k) text ≡ text_in k b = ap (take (12 * k)) et ∙ take_at (text_in k b) (drop (12 * k) (replicate room 0)) (12 * k) (text_length k b (omega arith)) in
    ee ∙ ap (λ (l : List ℕ). length (trimmed l)) f

-- up to one byte behind its last that is not zero
pub run_is : (b text : List ℕ) (e : ℕ) → packs_size (length b) ≡ true → Gathered b text → Trimmed b text e → take (e + 1) text ≡ run_in b
unfolding run_in
run_is b text e s et ee =
    let w = sized (length b) s in
    let k : ℕ = length b / 18 - 3 in
    let t = text_in k b in
    let z : text ≡ t ++ zeros (room - 12 * k) = et ∙ ap (λ (l : List ℕ). t ++ l) (drop_zeros (12 * k) room (omega arith)) in
    let j : e + 1 ≡ length (trimmed t) + 1 = omega (arith, trim_is b text e s et ee) in
    ap₂ (take {A = ℕ}) j z ∙ one_more t (room - 12 * k) (omega arith)

-- that byte lies in the text
pub run_ends : (b text : List ℕ) (e : ℕ) → packs_size (length b) ≡ true → Gathered b text → Trimmed b text e → e + 1 ≤ room
run_ends b text e s et ee =
    let w = sized (length b) s in
    let k : ℕ = length b / 18 - 3 in
    omega (arith, trim_is b text e s et ee, text_length k b (omega arith), cut_under (text_in k b))

-- ---- what is read

-- a refusal leaves the buffer as it was: 18
pub refused : (b d : List ℕ) → is_packs b ≡ false → Fills 1 (read_packs b) (Err NoPacks) d d
unfolding read_packs answer_of buffer_of
refused b d e = rw e (record { answer = refl; buffer = refl })

pub not_size : (b : List ℕ) → packs_size (length b) ≡ false → is_packs b ≡ false
unfolding is_packs
not_size b e = rw e

pub by_packs : (b run : List ℕ) (t : Bool) → packs_size (length b) ≡ true → run ≡ run_in b → t ≡ are_bytes (packs run) b → is_packs b ≡ t
unfolding is_packs
by_packs b run t s e et = rw (s, ← e) (sym et)

-- what was filled in for the run is what is read: a filler refuses for the buffer alone, 11
pub filled : (b run d out : List ℕ) (m : Result ℕ L.Refusal) (r : Result ℕ Refusal) → is_packs b ≡ true → run ≡ run_in b → F.Fills (pass run) m d out → MatchResult m (λ n. r ≡ Ok n) (λ e. r ≡ Err ShortBuffer) → Fills 1 (read_packs b) r d out
unfolding read_packs answer_of
filled b run d out (Ok n) r t e f h =
    rw (t, ← e, h) (record { answer = ap pass one ∙ f.answer; buffer = f.buffer })
  where
    one : 1 * n ≡ n
    one = omega arith
filled b run d out (Err q) r t e f h = rw (t, ← e, h) (record { answer = by (leb (length run) (length d)) f.answer; buffer = f.buffer })
  where
    by : (s : Bool) → refuse (F.number_of q) ≡ if s (pass (length run)) (refuse 11) → refuse 11 ≡ if s (pass (length run)) (refuse 11)
    by true x = absurd (let z : ◌≡◌ {A = ℕ} 0 1 = cc in omega arith)
    by false x = refl

pub reads : {b : List ℕ} {r : Result ℕ Refusal} {before after : List ℕ} → Fills 1 (read_packs b) r before after → ReadsPacks b r before after
reads {b} f = record { filled = f; made = made b; no_other = λ run. reads_back run b }
