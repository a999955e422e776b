-- The runs that are allowed are those of 1 to 99 allowed titles.
use mathlib.Core.Path.{◌≡◌, refl, sym, ◌∙◌, ap}
use mathlib.Core.List.{List, [], ◌∷◌, ◌++◌}
use mathlib.Core.Bool.{true, false, ◌&&◌}
use Prim.Native.Nat.{ℕ, suc, ◌+◌, ◌≤◌}
use native.Mathlib.Omega.{arith}
use lib.Dec.{eqb, leb}
use lib.ListN.{length, length-append}
use lib.Seq.{append_snoc}
use borrow.Author.Tests.{eqb-true, ne_eqb, leb-true, le-leb}
use Rattle.std.proofs.lemmas.Bool.{and_parts}
use Rattle.basics.proofs.Tests.{known}
use Rattle.cdtext.specs.Titles.{last_character, is_character, title_length, titles_from, title_count, most_titles, allowed, all_characters, all_titles, run_of}
use Rattle.cdtext.specs.Packs.{IsRun}

-- ---- from the run to its titles

no_characters : all_characters [] ≡ true
unfolding all_characters
no_characters = refl

one_more : (t : List ℕ) (x : ℕ) → all_characters t ≡ true → is_character x ≡ true → all_characters (t ++ x ∷ []) ≡ true
unfolding all_characters
one_more [] x a h = rw h
one_more (y ∷ t) x a h =
    let w = and_parts (is_character y) (all_characters t) a in
    rw (w.0, one_more t x w.1 h)

no_length : (t : List ℕ) → length t ≡ 0 → t ≡ []
no_length [] e = refl
no_length (x ∷ t) e = absurd (omega arith)

-- the titles of a text, where the characters t of the first stand before the run
record Cut (t run : List ℕ) (ts : List (List ℕ)) : Type 0 where
  pub packed : t ++ run ≡ run_of ts
  pub good : all_titles ts ≡ true
  pub count : title_count run ≡ length ts

-- a zero ends the title
cut_end : (x : ℕ) (xs t : List ℕ) (ts : List (List ℕ)) → eqb x 0 ≡ true → title_length (length t) ≡ true → all_characters t ≡ true
    → Cut [] xs ts → Cut t (x ∷ xs) (t ∷ ts)
unfolding title_count all_titles run_of
cut_end x xs t ts e l a r =
    record {
      packed = rw (eqb-true x 0 e, r.packed);
      good = rw (l, a, r.good);
      count = rw e (omega (arith, r.count));
    }

-- any other byte is one more of its characters
cut_more : (x : ℕ) (xs t : List ℕ) (ts : List (List ℕ)) → eqb x 0 ≡ false → Cut (t ++ x ∷ []) xs ts → Cut t (x ∷ xs) ts
unfolding title_count
cut_more x xs t ts e r =
    record {
      packed = sym (append_snoc t x xs) ∙ r.packed;
      good = r.good;
      count = rw e (omega (arith, r.count));
    }

cut : (run t : List ℕ) → all_characters t ≡ true → titles_from (length t) run ≡ true → (ts : List (List ℕ)) × Cut t run ts
unfolding titles_from title_count all_titles run_of
cut [] t a h = ([], record { packed = rw (no_length t (eqb-true (length t) 0 h)); good = refl; count = refl })
cut (x ∷ xs) t a h = known (eqb x 0)
    (λ e.
    let w = and_parts (title_length (length t)) (titles_from 0 xs) (rw e at h) in
    let r = cut xs [] no_characters w.1 in
    (t ∷ r.0, cut_end x xs t r.0 e w.0 a r.1))
    (λ e.
    let w = and_parts (is_character x) (titles_from (length t + 1) xs) (rw e at h) in
    let n : length (t ++ x ∷ []) ≡ length t + 1 = length-append t (x ∷ []) in
    let r = cut xs (t ++ x ∷ []) (one_more t x a w.0) (rw n w.1) in
    (r.0, cut_more x xs t r.0 e r.1))

pub titles : (run : List ℕ) → allowed run ≡ true → (ts : List (List ℕ)) × IsRun run ts
unfolding allowed
titles run h =
    let w = and_parts (titles_from 0 run) (leb 1 (title_count run) && leb (title_count run) most_titles) h in
    let v = and_parts (leb 1 (title_count run)) (leb (title_count run) most_titles) w.1 in
    let r = cut run [] no_characters w.0 in
    let n : title_count run ≡ length r.0 = r.1.count in
    let low : 1 ≤ title_count run = leb-true 1 (title_count run) v.0 in
    let high : title_count run ≤ most_titles = leb-true (title_count run) most_titles v.1 in
    (r.0, record { packed = r.1.packed; good = r.1.good; some = omega arith; few = omega arith })

-- ---- from titles to their run

-- a character is not the zero that ends a title
pub not_end : (x : ℕ) → is_character x ≡ true → eqb x 0 ≡ false
not_end x h =
    let w = and_parts (leb 0x20 x) (leb x last_character) h in
    ne_eqb x 0 (λ e. omega (arith, leb-true 0x20 x w.0))

title_from : (t : List ℕ) (c : ℕ) (rest : List ℕ) → all_characters t ≡ true
    → titles_from c (t ++ 0 ∷ rest) ≡ (title_length (c + length t) && titles_from 0 rest)
unfolding titles_from all_characters
title_from [] c rest a = let e : c + 0 ≡ c = omega arith in rw e
title_from (x ∷ t) c rest a =
    let w = and_parts (is_character x) (all_characters t) a in
    let e : c + 1 + length t ≡ c + suc (length t) = omega arith in
    rw (not_end x w.0, w.0, title_from t (c + 1) rest w.1, e)

title_count_lem : (t rest : List ℕ) → all_characters t ≡ true → title_count (t ++ 0 ∷ rest) ≡ 1 + title_count rest
unfolding title_count all_characters
title_count_lem [] rest a = refl
title_count_lem (x ∷ t) rest a =
    let w = and_parts (is_character x) (all_characters t) a in
    rw (not_end x w.0) (omega (arith, title_count_lem t rest w.1))

run_good : (ts : List (List ℕ)) → all_titles ts ≡ true → (titles_from 0 (run_of ts) ≡ true) × (title_count (run_of ts) ≡ length ts)
unfolding all_titles run_of titles_from title_count
run_good [] a = (refl, refl)
run_good (t ∷ ts) a =
    let w = and_parts (title_length (length t) && all_characters t) (all_titles ts) a in
    let v = and_parts (title_length (length t)) (all_characters t) w.0 in
    let r = run_good ts w.1 in
    let e : 0 + length t ≡ length t = omega arith in
    (rw (title_from t 0 (run_of ts) v.1, e, v.0, r.0), omega (arith, title_count_lem t (run_of ts) v.1, r.1))

pub allows : (run : List ℕ) (ts : List (List ℕ)) → IsRun run ts → (allowed run ≡ true) × (title_count run ≡ length ts)
unfolding allowed
allows run ts i =
    let r = run_good ts i.good in
    let n : title_count (run_of ts) ≡ length ts = r.1 in
    let low : leb 1 (length ts) ≡ true = le-leb 1 (length ts) i.some in
    let few = i.few in
    let high : leb (length ts) most_titles ≡ true = le-leb (length ts) most_titles (omega arith) in
    (rw (i.packed, r.0, n, low, high), ap title_count i.packed ∙ n)
