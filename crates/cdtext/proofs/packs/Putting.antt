-- Text packs written one after the other, while the place in the titles goes along.
use mathlib.Core.Path.{◌≡◌, refl, sym, ap, ap₂, ◌∙◌}
use mathlib.Core.List.{List, ◌++◌}
use Prim.Native.Nat.{ℕ, suc, ◌+◌, ◌-◌, ◌*◌, ◌≤◌, ◌<◌, min}
use native.Mathlib.Numerals.{add-one}
use native.Mathlib.Omega.{arith}
use lib.Dec.{leb}
use lib.ListN.{length, take, drop, length-drop, length-take}
use lib.Seq.{take_all}
use borrow.Author.Tests.{leb-true, leb-false}
use Rattle.basics.proofs.Tests.{known}
use Rattle.cdtext.specs.Titles.{most_titles}
use Rattle.cdtext.specs.Packs.{most_position, longest_run, pack, place_after, place_at, first_place, text_pack, text_packs, packs_for, Fits}
use Rattle.cdtext.specs.declared.packs.Place.{Place}
use Rattle.cdtext.proofs.packs.Steps.{put_more}
use Rattle.cdtext.proofs.packs.Places.{place_pack, track_under, count_under}
use Rattle.cdtext.proofs.packs.Texts.{texts_length}

-- the first k of n packs are written over d
pub record Putting (run : List ℕ) (n : ℕ) (d out : List ℕ) (place : Place) (k : ℕ) : Type 0 where
  pub reach : k ≤ n
  pub packs : n ≡ packs_for run
  pub fits : Fits run (length d)
  pub long : length out ≡ length d
  pub done : out ≡ text_packs run k ++ drop (18 * k) d
  pub here : place ≡ place_at run k
  pub track : place.track ≤ 1 + most_titles
  pub count : place.count ≤ longest_run

pub putting_start : (run : List ℕ) (n : ℕ) (d : List ℕ) → Fits run (length d) → n ≡ packs_for run → Putting run n d d first_place 0
unfolding text_packs place_after
putting_start run n d f e =
    record {
      reach = omega arith;
      packs = e;
      fits = f;
      long = refl;
      done = refl;
      here = refl;
      track = omega arith;
      count = omega arith;
    }

-- the twelve bytes of a pack, or what is left of the run
piece_is : (run : List ℕ) (a e : ℕ) → a ≤ length run → e ≡ min (length run) (a + 12) → take (e - a) (drop a run) ≡ take 12 (drop a run)
piece_is run a e h q =
    known (leb (a + 12) (length run))
    (λ t. let w : e - a ≡ 12 = omega (arith, leb-true (a + 12) (length run) t) in rw w)
    (λ t.
    let l = leb-false (a + 12) (length run) t in
    take_all (e - a) (drop a run) (omega (arith, l, length-drop a run)) ∙ sym (take_all 12 (drop a run) (omega (arith, l, length-drop a run))))

abbrev PutAt : List ℕ → List ℕ → ℕ → List ℕ → Type 0
PutAt out out' k p = out' ≡ take (18 * k) out ++ p ++ drop (18 * k + 18) out

pub putting_next : (run : List ℕ) (n : ℕ) (d out : List ℕ) (place : Place) (k : ℕ) → Putting run n d out place k → k < n
    → (e position : ℕ) → e ≡ min (length run) (12 * k + 12) → position ≡ min place.count most_position
    → (p out' : List ℕ) → p ≡ pack 0x80 place.track k position (take (e - 12 * k) (drop (12 * k) run)) → PutAt out out' k p → length out' ≡ length out
    → (place' : Place) → place' ≡ place_after place (take (e - 12 * k) (drop (12 * k) run)) → Putting run n d out' place' (k + 1)
unfolding text_packs text_pack
putting_next run n d out place k v h e position ee ep p out' ek eo el place' en =
    let h0 = v.packs in
    let n : 18 * k + 18 ≡ 18 * suc k = omega arith in
    let t = piece_is run (12 * k) e (omega arith) ee in
    let pk : p ≡ text_pack run k = ek ∙ rw (t, ep, v.here) in
    let w : place' ≡ place_at run (k + 1) = en ∙ ap₂ place_after v.here t ∙ place_pack run k in
    record {
      reach = omega arith;
      packs = v.packs;
      fits = v.fits;
      long = el ∙ v.long;
      done = put_more (text_packs run k) p d out out' (18 * k) 18 (texts_length run k) v.done eo ∙ rw (pk, add-one k, n);
      here = w;
      track = let f = v.fits.few in omega (arith, ap (λ (q : Place). q.track) w, track_under run (k + 1));
      count = let f = v.fits.short in omega (arith, ap (λ (q : Place). q.count) w, count_under first_place (take (12 * (k + 1)) run), length-take (12 * (k + 1)) run);
    }

pub putting_end : (run : List ℕ) (n : ℕ) (d out : List ℕ) (place : Place) (k : ℕ) → Putting run n d out place k → n ≤ k → out ≡ text_packs run n ++ drop (18 * n) d
putting_end run n d out place k v h =
    let r = v.reach in
    let e : k ≡ n = omega arith in
    v.done ∙ rw e
