-- What the count of titles and the length of a run say of its packs.
use mathlib.Core.Path.{◌≡◌, refl, sym, ap, ap₂, ◌∙◌}
use mathlib.Core.List.{List, ◌++◌, append-nil, append_assoc}
use mathlib.Core.Bool.{true}
use Prim.Native.Nat.{ℕ, ◌+◌, ◌-◌, ◌*◌, ◌≤◌, ◌<◌}
use native.Mathlib.Omega.{arith}
use lib.Dec.{leb}
use lib.ListN.{length, take, drop, length-drop, drop_of_length-le}
use lib.Seq.{drop-drop, take_all, take_at}
use borrow.Author.Tests.{le-leb, lt-leb, leb-true}
use Rattle.std.specs.Prelude.{Result, Ok, Err, Some, None}
use Rattle.std.proofs.lemmas.Option.{none-some, same_Some}
use Rattle.basics.specs.Bytes.{same_bytes}
use Rattle.mmc.specs.Refusals.{Outcome, pass, refuse, answer_of, buffer_of}
use Rattle.std.proofs.lemmas.Bool.{and_parts}
use Rattle.basics.proofs.Tests.{known}
use Rattle.cdtext.specs.Titles.{most_titles, allowed, titles_from, title_count}
use Rattle.cdtext.specs.Packs.{most_packs, longest_run, packs_for, packs_of, packs, text_packs, size_packs, size_record, are_bytes, Fits, Fills, MakesPacks}
use Rattle.cdtext.specs.Refusals.{number_of}
use Rattle.cdtext.specs.declared.refusals.Refusal.{Refusal}
use Rattle.cdtext.specs.declared.refusals.Refusal.TheVariants.{ShortBuffer}
use Rattle.cdtext.proofs.titles.Steps.{found}
use Rattle.cdtext.proofs.titles.Laws.{titles, allows}
use Rattle.cdtext.proofs.packs.Steps.{put_more}
use Rattle.cdtext.proofs.packs.Tracks.{placed}
use Rattle.cdtext.proofs.packs.Texts.{texts_length}
use Rattle.cdtext.proofs.packs.Laws.{some, long, few, no_gaps, reads_back}

-- ---- the count of titles

counts : (run : List ℕ) → allowed run ≡ true → (1 ≤ title_count run) × (title_count run ≤ most_titles)
unfolding allowed
counts run e =
    let w = and_parts (titles_from 0 run) _ e in
    let v = and_parts (leb 1 (title_count run)) (leb (title_count run) most_titles) w.1 in
    (leb-true 1 (title_count run) v.0, leb-true (title_count run) most_titles v.1)

-- titles are counted
pub counted : (run : List ℕ) (t : ℕ) → found run ≡ Some t → (allowed run ≡ true) × (t ≡ title_count run)
counted run t e =
    known (allowed run)
    (λ a. let q : Some (title_count run) ≡ Some t = rw a at e in (a, sym (same_Some _ _ q)))
    (λ a. let q : None ≡ Some t = rw a at e in absurd (none-some t q))

-- no titles are counted: 17
pub none : (run : List ℕ) → found run ≡ None → packs run ≡ refuse 17
unfolding packs
none run e =
    known (allowed run)
    (λ a. let q : Some (title_count run) ≡ None = rw a at e in absurd (none-some (title_count run) (sym q)))
    (λ a. rw a)

-- ---- the length of the run

-- 19
pub too_many : (run : List ℕ) → allowed run ≡ true → longest_run < length run → packs run ≡ refuse 19
unfolding packs
too_many run a h = rw (a, lt-leb (packs_for run + 3) most_packs (omega arith))

pub passed : (run : List ℕ) → allowed run ≡ true → length run ≤ longest_run → packs run ≡ pass (packs_of run)
unfolding packs
passed run a h = rw (a, le-leb (packs_for run + 3) most_packs (omega arith))

pub fits : (run : List ℕ) (room : ℕ) → allowed run ≡ true → length run ≤ longest_run → 18 * (packs_for run + 3) ≤ room → Fits run room
fits run room a h r = record { few = (counts run a).1; short = h; some = omega (arith, some run a); holds = r }

-- ---- the lent buffer

-- the size packs behind the text packs, over the rest of the buffer
pub all_put : (run d out ys : List ℕ) (t n : ℕ) → t ≡ title_count run → n ≡ packs_for run → out ≡ text_packs run n ++ drop (18 * n) d
    → ys ≡ size_packs (size_record t n) n ++ drop 54 (take (length out - 18 * n) (drop (18 * n) out))
    → take (18 * n) out ++ (ys ++ drop (length out - 18 * n) (drop (18 * n) out)) ≡ packs_of run ++ drop (18 * (packs_for run + 3)) d
unfolding packs_of
all_put run d out ys t n et en eo ey =
    let k : 18 * n + 54 ≡ 18 * (packs_for run + 3) = omega arith in
    let s = size_packs (size_record t n) n in
    let r = drop (18 * n) out in
    let l : length r ≤ length out - 18 * n = omega (arith, length-drop (18 * n) out) in
    let f : drop 54 r ≡ drop (18 * n + 54) out = drop-drop 54 (18 * n) out in
    let q : take (18 * n) out ++ (ys ++ drop (length out - 18 * n) r) ≡ take (18 * n) out ++ s ++ drop (18 * n + 54) out =
    rw (drop_of_length-le r l, append-nil ys, ey, take_all (length out - 18 * n) r l, f, append_assoc (take (18 * n) out) s (drop (18 * n + 54) out)) in
    put_more (text_packs run n) s d out (take (18 * n) out ++ (ys ++ drop (length out - 18 * n) r)) (18 * n) 54 (texts_length run n) eo q ∙ rw (k, en, et)

-- a refusal leaves the buffer as it was
pub refused : (run : List ℕ) (r : Refusal) (d : List ℕ) → packs run ≡ refuse (number_of r) → Fills 18 (packs run) (Err r) d d
unfolding answer_of buffer_of
refused run r d e = rw e (record { answer = refl; buffer = refl })

-- 11
pub too_short : (run d : List ℕ) → packs run ≡ pass (packs_of run) → length d < 18 * (packs_for run + 3) → Fills 18 (packs run) (Err ShortBuffer) d d
unfolding answer_of buffer_of
too_short run d e h =
    let l = lt-leb (length (packs_of run)) (length d) (omega (arith, long run)) in
    rw e (record { answer = rw l; buffer = rw l })

pub filled : (run d out : List ℕ) (n : ℕ) → packs run ≡ pass (packs_of run) → 18 * (packs_for run + 3) ≤ length d → n ≡ packs_for run + 3 → out ≡ packs_of run ++ drop (18 * (packs_for run + 3)) d → Fills 18 (packs run) (Ok n) d out
unfolding answer_of buffer_of
filled run d out n e h en eo =
    let l = le-leb (length (packs_of run)) (length d) (omega (arith, long run)) in
    rw e (record { answer = rw (l, en, long run); buffer = eo ∙ rw (l, long run) })

pub makes : {run : List ℕ} {r : Result ℕ Refusal} {before after : List ℕ} → Fills 18 (packs run) r before after → MakesPacks run r before after
makes {run} f =
    record {
      filled = f;
      titles = titles run;
      allows = allows run;
      placed = placed run;
      few = few run;
      no_gaps = no_gaps run;
      reads_back = reads_back run;
    }

-- ---- whether bytes are the packs

-- the packs are made at the start of a buffer
pub made_are : (run b d out : List ℕ) (n : ℕ) → Fills 18 (packs run) (Ok n) d out → same_bytes (take (18 * n) out) b ≡ are_bytes (packs run) b
unfolding answer_of buffer_of
made_are run b d out n f = by (packs run) f.answer f.buffer
  where
    by : (o : Outcome (List ℕ)) → pass (18 * n) ≡ answer_of o d → out ≡ buffer_of o d → same_bytes (take (18 * n) out) b ≡ are_bytes o b
    by (pass p) e q =
        known (leb (length p) (length d))
        (λ t. let x : pass (18 * n) ≡ pass (length p) = rw t at e in let y : 18 * n ≡ length p = cc in let z : out ≡ p ++ drop (length p) d = rw t at q in
        ap (λ (l : List ℕ). same_bytes l b) (ap₂ (take {A = ℕ}) y z ∙ take_at p (drop (length p) d) (length p) refl))
        (λ t. let x : pass (18 * n) ≡ refuse 11 = rw t at e in absurd (let z : ◌≡◌ {A = ℕ} 0 1 = cc in omega arith))
    by (refuse m) e q = absurd (let z : ◌≡◌ {A = ℕ} 0 1 = cc in omega arith)

-- none are made, where the buffer is as long as the most packs
pub none_are : (run b d out : List ℕ) (r : Refusal) → Fills 18 (packs run) (Err r) d out → ((p : List ℕ) → packs run ≡ pass p → length p ≤ length d) → are_bytes (refuse 0) b ≡ are_bytes (packs run) b
unfolding answer_of
none_are run b d out r f h = by (packs run) f.answer h
  where
    by : (o : Outcome (List ℕ)) → refuse (number_of r) ≡ answer_of o d → ((p : List ℕ) → o ≡ pass p → length p ≤ length d) → are_bytes (refuse 0) b ≡ are_bytes o b
    by (pass p) e l =
        let x : refuse (number_of r) ≡ pass (length p) = rw (le-leb (length p) (length d) (l p refl)) at e in absurd (let z : ◌≡◌ {A = ℕ} 0 1 = cc in omega arith)
    by (refuse m) e l = refl

-- packs that are made are no longer than the buffer
pub made_fit : (run d out : List ℕ) (n : ℕ) → Fills 18 (packs run) (Ok n) d out → 18 * n ≤ length d
unfolding answer_of
made_fit run d out n f = by (packs run) f.answer
  where
    by : (o : Outcome (List ℕ)) → pass (18 * n) ≡ answer_of o d → 18 * n ≤ length d
    by (pass p) e =
        known (leb (length p) (length d))
        (λ t. let x : pass (18 * n) ≡ pass (length p) = rw t at e in let y : 18 * n ≡ length p = cc in omega (arith, leb-true (length p) (length d) t))
        (λ t. let x : pass (18 * n) ≡ refuse 11 = rw t at e in absurd (let z : ◌≡◌ {A = ℕ} 0 1 = cc in omega arith))
    by (refuse m) e = absurd (let z : ◌≡◌ {A = ℕ} 0 1 = cc in omega arith)
