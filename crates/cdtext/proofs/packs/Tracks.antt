-- The place of a pack's text among the titles, as a list of them.
use mathlib.Core.Path.{◌≡◌, refl, ap, ap₂, ◌∙◌}
use mathlib.Core.List.{List, [], ◌∷◌, ◌++◌, append_assoc}
use mathlib.Core.Bool.{true, ◌&&◌}
use Prim.Native.Nat.{ℕ, zero, suc, ◌+◌, ◌*◌, ◌≤◌}
use native.Mathlib.Omega.{arith}
use lib.ListN.{length, take}
use lib.Seq.{take-append-add, take-append-le, length-take-le}
use Rattle.std.proofs.lemmas.Bool.{and_parts}
use Rattle.cdtext.specs.Titles.{is_character, title_length, all_characters, all_titles, run_of}
use Rattle.cdtext.specs.Packs.{place_after, place_at, first_place, IsRun}
use Rattle.cdtext.specs.declared.packs.Place.{Place}
use Rattle.cdtext.proofs.titles.Laws.{not_end}
use Rattle.cdtext.proofs.packs.Places.{place_append}

abbrev at : ℕ → ℕ → Place
at n c = record { track = n; count = c }

-- ---- parts of titles

first_characters : (m : ℕ) (t : List ℕ) → all_characters t ≡ true → all_characters (take m t) ≡ true
unfolding all_characters
first_characters zero t h = refl
first_characters (suc m) [] h = refl
first_characters (suc m) (x ∷ t) h =
    let w = and_parts (is_character x) (all_characters t) h in
    rw (w.0, first_characters m t w.1)

run_append : (before after : List (List ℕ)) → run_of (before ++ after) ≡ run_of before ++ run_of after
unfolding run_of
run_append [] after = refl
run_append (t ∷ before) after = rw (run_append before after, append_assoc t (0 ∷ run_of before) (run_of after))

titles_append : (before after : List (List ℕ)) → all_titles (before ++ after) ≡ true → (all_titles before ≡ true) × (all_titles after ≡ true)
unfolding all_titles
titles_append [] after h = (refl, h)
titles_append (t ∷ before) after h =
    let w = and_parts (title_length (length t) && all_characters t) (all_titles (before ++ after)) h in
    let r = titles_append before after w.1 in
    (rw (w.0, r.0), r.1)

-- ---- the place behind them

-- characters are counted
behind_characters : (t : List ℕ) (n c : ℕ) → all_characters t ≡ true → place_after (at n c) t ≡ at n (c + length t)
unfolding place_after all_characters
behind_characters [] n c h = ap (at n) (omega arith)
behind_characters (x ∷ t) n c h =
    let w = and_parts (is_character x) (all_characters t) h in
    rw (not_end x w.0) (behind_characters t n (c + 1) w.1 ∙ ap (at n) (omega arith))

-- each title brings the next track
behind_titles : (ts : List (List ℕ)) (n : ℕ) → all_titles ts ≡ true → place_after (at n 0) (run_of ts) ≡ at (n + length ts) 0
unfolding place_after all_titles run_of
behind_titles [] n h = ap (λ (k : ℕ). at k 0) (omega arith)
behind_titles (t ∷ ts) n h =
    let w = and_parts (title_length (length t) && all_characters t) (all_titles ts) h in
    let v = and_parts (title_length (length t)) (all_characters t) w.0 in
    place_append (at n 0) t (0 ∷ run_of ts)
    ∙ ap (λ (p : Place). place_after p (0 ∷ run_of ts)) (behind_characters t n 0 v.1)
    ∙ behind_titles ts (n + 1) w.1
    ∙ ap (λ (k : ℕ). at k 0) (omega arith)

pub placed : (run : List ℕ) (before after : List (List ℕ)) (t : List ℕ) (k m : ℕ) → IsRun run (before ++ t ∷ after) → 12 * k ≡ length (run_of before) + m → m ≤ length t → place_at run k ≡ record { track = length before + 1; count = m }
unfolding run_of all_titles
placed run before after t k m i e h =
    let g = titles_append before (t ∷ after) i.good in
    let w = and_parts (title_length (length t) && all_characters t) (all_titles after) g.1 in
    let v = and_parts (title_length (length t)) (all_characters t) w.0 in
    let s : take (12 * k) run ≡ run_of before ++ take m t =
    ap (λ (r : List ℕ). take (12 * k) r) (i.packed ∙ run_append before (t ∷ after))
    ∙ ap (λ (j : ℕ). take j (run_of before ++ (t ++ 0 ∷ run_of after))) e
    ∙ take-append-add (run_of before) (t ++ 0 ∷ run_of after) m
    ∙ ap (λ (l : List ℕ). run_of before ++ l) (take-append-le m t (0 ∷ run_of after) h) in
    ap (place_after first_place) s
    ∙ place_append first_place (run_of before) (take m t)
    ∙ ap (λ (p : Place). place_after p (take m t)) (behind_titles before 1 g.0)
    ∙ behind_characters (take m t) (1 + length before) 0 (first_characters m t v.1)
    ∙ ap₂ at (omega arith) (omega (arith, length-take-le m t h))
