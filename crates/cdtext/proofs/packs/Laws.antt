-- Packs read back to the run they were made of, and a reader takes no others.
use mathlib.Core.Path.{◌≡◌, refl, sym, ap, ◌∙◌}
use mathlib.Core.List.{List, [], ◌∷◌, ◌++◌}
use mathlib.Core.Bool.{Bool, true, false, ◌&&◌}
use Prim.Native.Nat.{ℕ, ◌+◌, ◌-◌, ◌*◌, ◌/◌, ◌%◌, ◌≤◌}
use native.Mathlib.Omega.{arith}
use lib.Dec.{eqb, leb}
use lib.ListN.{length, replicate, length-append}
use borrow.Author.Tests.{eq-eqb, leb-true, le-leb}
use Rattle.basics.specs.Bytes.{if}
use Rattle.mmc.specs.Refusals.{Outcome, pass, refuse}
use Rattle.std.proofs.lemmas.Bool.{and_parts, false≢true}
use Rattle.basics.proofs.Tests.{known}
use Rattle.basics.proofs.Bytes.{same_is, same_refl}
use Rattle.cdtext.specs.Titles.{is_character, most_titles, allowed, titles_from, title_count}
use Rattle.cdtext.specs.Packs.{most_packs, packs, packs_of, packs_for, text_packs, size_record, size_packs, text_in, trimmed, run_in, packs_size, are_bytes, is_packs, read_packs}
use Rattle.cdtext.proofs.packs.Texts.{texts_length, sizes_length, in_front, whole, trims}

-- ---- the packs of a run

module _ (run : List ℕ) where
  texts_long : length (text_packs run (packs_for run)) ≡ 18 * packs_for run
  texts_long = texts_length run (packs_for run)

  pub long : length (packs_of run) ≡ 18 * (packs_for run + 3)
  unfolding packs_of
  long =
      let sizes : List ℕ = size_record (title_count run) (packs_for run) in
      omega (arith, length-append (text_packs run (packs_for run)) (size_packs sizes (packs_for run)), texts_long, sizes_length sizes (packs_for run))

  text : text_in (packs_for run) (packs_of run) ≡ run ++ replicate (12 * packs_for run - length run) 0
  unfolding packs_of
  text =
      let k : ℕ = packs_for run in
      let h : 18 * k ≤ length (text_packs run k) = omega (arith, texts_long) in
      in_front k (text_packs run k) (size_packs (size_record (title_count run) k) k) h ∙ whole run k (omega arith) (omega arith)

-- a run that has packs is allowed, they are no more than can be, and they are these
record Packed (run b : List ℕ) : Type 0 where
  pub good : allowed run ≡ true
  pub few : packs_for run + 3 ≤ most_packs
  pub are : packs_of run ≡ b

packed : (run b : List ℕ) → packs run ≡ pass b → Packed run b
unfolding packs
packed run b e = by (allowed run) (leb (packs_for run + 3) most_packs) refl refl e
  where
    by : (a f : Bool) → allowed run ≡ a → leb (packs_for run + 3) most_packs ≡ f → if a (if f (pass (packs_of run)) (refuse 19)) (refuse 17) ≡ pass b → Packed run b
    by true true x y h = record { good = x; few = leb-true (packs_for run + 3) most_packs y; are = cc }
    by true false x y h = absurd (let z : ◌≡◌ {A = ℕ} 0 1 = cc in omega arith)
    by false f x y h = absurd (let z : ◌≡◌ {A = ℕ} 0 1 = cc in omega arith)

as_long : (run b : List ℕ) → packs run ≡ pass b → length b ≡ 18 * (packs_for run + 3)
as_long run b e = ap length (sym (packed run b e).are) ∙ long run

pub few : (run b : List ℕ) → packs run ≡ pass b → (length b ≡ 18 * (packs_for run + 3)) × (packs_for run + 3 ≤ 255)
few run b e = (as_long run b e, (packed run b e).few)

pub no_gaps : (run b : List ℕ) → packs run ≡ pass b → text_in (packs_for run) b ≡ run ++ replicate (12 * packs_for run - length run) 0
no_gaps run b e = rw (← (packed run b e).are) (text run)

-- ---- what is made reads back

-- an allowed run has a character and its zero
none : allowed [] ≡ true → ⊥
unfolding allowed titles_from title_count
none h = false≢true h

one : (x : ℕ) → allowed (x ∷ []) ≡ true → ⊥
unfolding allowed titles_from
one x h =
    let w = and_parts (titles_from 0 (x ∷ [])) _ h in
    known (eqb x 0) (λ e. false≢true (rw e at w).0) (λ e. false≢true (and_parts (is_character x) false (rw e at w).0).1)

pub some : (run : List ℕ) → allowed run ≡ true → 2 ≤ length run
some [] h = absurd (none h)
some (x ∷ []) h = absurd (one x h)
some (x ∷ y ∷ ys) h = omega arith

trims_back : (run : List ℕ) (n : ℕ) → allowed run ≡ true → trimmed (run ++ replicate n 0) ++ 0 ∷ [] ≡ run
unfolding allowed
trims_back [] n h = absurd (none h)
trims_back (x ∷ xs) n h =
    let w = and_parts (titles_from 0 (x ∷ xs)) (leb 1 (title_count (x ∷ xs)) && leb (title_count (x ∷ xs)) most_titles) h in
    trims xs 0 x n w.0

module _ (run b : List ℕ) (e : packs run ≡ pass b) where
  p : Packed run b
  p = packed run b e

  size : (4 ≤ packs_for run + 3) × (packs_for run + 3 ≤ most_packs) × (length b ≡ 18 * (packs_for run + 3))
  size = (omega (arith, some run p.good), p.few, as_long run b e)

  size_back : packs_size (length b) ≡ true
  unfolding packs_size
  size_back =
      let s = size in
      simp (le-leb 72 (length b) (omega arith), le-leb (length b) (18 * most_packs) (omega arith), eq-eqb (length b % 18) 0 (omega arith))

  run_back : run_in b ≡ run
  unfolding run_in
  run_back =
      let n : length b / 18 - 3 ≡ packs_for run = omega (arith, as_long run b e) in
      rw (n, no_gaps run b e) (trims_back run (12 * packs_for run - length run) p.good)

  is_packs_lem : is_packs b ≡ true
  unfolding is_packs
  is_packs_lem = simp (size_back, run_back, e, same_refl b)

pub reads_back : (run b : List ℕ) → packs run ≡ pass b → read_packs b ≡ pass run
unfolding read_packs
reads_back run b e = rw (is_packs_lem run b e, run_back run b e)

-- ---- a reader takes no others

same_packs : (p : Outcome (List ℕ)) (b : List ℕ) → are_bytes p b ≡ true → p ≡ pass b
same_packs (pass a) b h = ap pass (same_is a b h)
same_packs (refuse n) b h = absurd (false≢true h)

pub made : (b run : List ℕ) → read_packs b ≡ pass run → packs run ≡ pass b
unfolding read_packs is_packs
made b run e = known (is_packs b) yes no
  where
    yes : is_packs b ≡ true → packs run ≡ pass b
    yes t =
        let x : pass (run_in b) ≡ pass run = rw t at e in
        let y : run_in b ≡ run = cc in
        rw (← y) (same_packs (packs (run_in b)) b (and_parts (packs_size (length b)) (are_bytes (packs (run_in b)) b) t).1)

    no : is_packs b ≡ false → packs run ≡ pass b
    no t = let x : refuse 18 ≡ pass run = rw t at e in absurd (let y : ◌≡◌ {A = ℕ} 0 1 = cc in omega arith)
