-- Where a text ends, byte by byte and part by part.
use mathlib.Core.Path.{◌≡◌, refl, sym, ap, ◌∙◌}
use mathlib.Core.List.{List, [], ◌∷◌, ◌++◌}
use Prim.Native.Nat.{ℕ, ◌+◌, ◌*◌, ◌≤◌, ◌<◌}
use native.Mathlib.Omega.{arith}
use lib.Dec.{eqb}
use lib.ListN.{length, get_or, take, drop, drop_of_length-le, take-append-drop}
use lib.Seq.{take-add}
use Rattle.basics.proofs.Tests.{known}
use Rattle.basics.proofs.Lists.{drop_next}
use Rattle.cdtext.specs.Titles.{title_count}
use Rattle.cdtext.specs.Packs.{next_place, place_after, first_place, place_at}
use Rattle.cdtext.specs.declared.packs.Place.{Place}

pub place_next : (p : Place) (t : List ℕ) (i : ℕ) → i < length t → place_after p (drop i t) ≡ place_after (next_place p (get_or t i 0)) (drop (i + 1) t)
unfolding place_after
place_next p t i h = ap (place_after p) (drop_next t i h)

pub place_end : (p : Place) (t : List ℕ) (i : ℕ) → length t ≤ i → place_after p (drop i t) ≡ p
unfolding place_after
place_end p t i h = ap (place_after p) (drop_of_length-le t h)

-- ---- one part after the other

pub place_append : (p : Place) (s t : List ℕ) → place_after p (s ++ t) ≡ place_after (place_after p s) t
unfolding place_after
place_append p [] t = refl
place_append p (x ∷ s) t = place_append (next_place p x) s t

-- where the next pack's text begins
pub place_pack : (run : List ℕ) (k : ℕ) → place_after (place_at run k) (take 12 (drop (12 * k) run)) ≡ place_at run (k + 1)
place_pack run k =
    let e : 12 * (k + 1) ≡ 12 * k + 12 = omega arith in
    rw (e, take-add (12 * k) 12 run, place_append first_place (take (12 * k) run) (take 12 (drop (12 * k) run)))

-- ---- bounds

-- one title for each ending zero
track_is : (p : Place) (t : List ℕ) → (place_after p t).track ≡ p.track + title_count t
unfolding place_after title_count
track_is p [] = omega arith
track_is p (x ∷ t) = track_is (next_place p x) t ∙ known (eqb x 0) (λ e. rw e (omega arith)) (λ e. rw e (omega arith))

pub count_under : (p : Place) (t : List ℕ) → (place_after p t).count ≤ p.count + length t
unfolding place_after
count_under p [] = omega arith
count_under p (x ∷ t) =
    let h : (next_place p x).count ≤ p.count + 1 = known (eqb x 0) (λ e. rw e (omega arith)) (λ e. rw e (omega arith)) in
    omega (arith, count_under (next_place p x) t)

titles_append : (s t : List ℕ) → title_count (s ++ t) ≡ title_count s + title_count t
unfolding title_count
titles_append [] t = omega arith
titles_append (x ∷ s) t = let h = titles_append s t in omega arith

-- a pack's track is at most the one behind the last title
pub track_under : (run : List ℕ) (k : ℕ) → (place_at run k).track ≤ 1 + title_count run
track_under run k =
    let e : title_count run ≡ title_count (take (12 * k) run) + title_count (drop (12 * k) run) = ap title_count (sym (take-append-drop (12 * k) run)) ∙ titles_append (take (12 * k) run) (drop (12 * k) run) in
    omega (arith, track_is first_place (take (12 * k) run))
