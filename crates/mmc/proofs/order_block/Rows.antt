-- One more row of an order block, in the loops that read the rows, judge them and put them.
use mathlib.Core.Path.{◌≡◌, refl, sym, ap, ◌∙◌}
use mathlib.Core.List.{List, [], ◌∷◌, ◌++◌, append-nil, append_assoc}
use mathlib.Core.Bool.{Bool, true, false, ◌&&◌}
use Prim.Native.Nat.{ℕ, zero, suc, ◌+◌, ◌*◌, ◌-◌, ◌≤◌, ◌<◌}
use native.Mathlib.Numerals.{add-one}
use native.Mathlib.Omega.{arith}
use lib.ListN.{length, get_or, take, drop, set, length-append, take-append-drop, replicate}
use lib.Seq.{take-suc-set, append_snoc, drop-drop, take_all, take_at, length-take-le}
use lib.Dec.{leb}
use Rattle.basics.specs.Bytes.{put_at, bytes32}
use Rattle.mmc.specs.Block.{sealed}
use Rattle.mmc.specs.OrderBlock.{kinds_ok, tracks_of, track_of, row, rows, order_body, order_bytes, method_byte, flags_byte, recipe_byte}
use Rattle.basics.proofs.Bytes.{put_next}
use Rattle.mmc.specs.declared.order.Order.{Order}
use Rattle.mmc.specs.declared.order.Track.{Track}

-- the row at p, with m rows after it
kinds_more : (p m : ℕ) (b : List ℕ) → kinds_ok (suc m) (drop p b) ≡ (kinds_ok 1 (drop p b) && kinds_ok m (drop (p + 5) b))
unfolding kinds_ok
kinds_more p m b = rw (drop-drop 5 p b) (by (leb (get_or (drop p b) 0 0) 1) (kinds_ok m (drop (p + 5) b)))
  where
    by : (t u : Bool) → (t && u) ≡ ((t && true) && u)
    by true u = refl
    by false u = refl

pub kinds_next : (b : List ℕ) (i : ℕ) → i < 99
    → kinds_ok (99 - i) (drop (4 + 5 * i) b) ≡ (kinds_ok 1 (drop (4 + 5 * i) b) && kinds_ok (99 - (i + 1)) (drop (4 + 5 * (i + 1)) b))
kinds_next b i h =
    let q : 4 + 5 * (i + 1) ≡ 4 + 5 * i + 5 = omega arith in
    let m : 99 - i ≡ suc (99 - (i + 1)) = omega arith in
    rw (q, m) (kinds_more (4 + 5 * i) (99 - (i + 1)) b)

pub kinds_end : (b : List ℕ) (i : ℕ) → 99 ≤ i → kinds_ok (99 - i) (drop (4 + 5 * i) b) ≡ true
unfolding kinds_ok
kinds_end b i h = let m : 99 - i ≡ 0 = omega arith in rw m

-- an array whose first i tracks are those of the first i rows, with the next one stored
track_more : (p m i : ℕ) (b : List ℕ) (a : List Track) → i < length a
    → take (suc i) (set a i (track_of (drop p b))) ++ tracks_of m (drop (p + 5) b) ≡ take i a ++ tracks_of (suc m) (drop p b)
unfolding tracks_of
track_more p m i b a h = rw (take-suc-set a i (track_of (drop p b)) h, append_snoc, drop-drop 5 p b)

pub track_next : (b : List ℕ) (a : List Track) (i : ℕ) (v : Track) → i < 99 → length a ≡ 99 → v ≡ track_of (drop (4 + 5 * i) b)
    → take (i + 1) (set a i v) ++ tracks_of (99 - (i + 1)) (drop (4 + 5 * (i + 1)) b) ≡ take i a ++ tracks_of (99 - i) (drop (4 + 5 * i) b)
track_next b a i v lt len e =
    let q : 4 + 5 * (i + 1) ≡ 4 + 5 * i + 5 = omega arith in
    let m : 99 - i ≡ suc (99 - (i + 1)) = omega arith in
    rw (e, q, m, add-one) (track_more (4 + 5 * i) (99 - suc i) i b a (omega arith))

pub track_end : (b : List ℕ) (a : List Track) (i : ℕ) → 99 ≤ i → length a ≡ 99 → take i a ++ tracks_of (99 - i) (drop (4 + 5 * i) b) ≡ a
unfolding tracks_of
track_end b a i ge len =
    let m : 99 - i ≡ 0 = omega arith in
    rw (m, take_all i a (omega arith)) (append-nil a)

-- ---- rows that are put

pub rows_length : (ts : List Track) → length (rows ts) ≡ 5 * length ts
unfolding rows row bytes32
rows_length [] = refl
rows_length (t ∷ ts) =
    let h : length (rows ts) ≡ 5 * length ts = rows_length ts in
    omega arith

pub rows_more : (d : Track) (i : ℕ) (ts : List Track) → i < length ts → rows (take (suc i) ts) ≡ rows (take i ts) ++ row (get_or ts i d)
unfolding rows row bytes32
rows_more d i [] h = absurd (omega arith)
rows_more d zero (t ∷ ts) h = refl
rows_more d (suc i) (t ∷ ts) h = ap (λ (r : List ℕ). row t ++ r) (rows_more d i ts (omega arith))

-- a turn of the loop that puts the rows
pub rows_next : (e : Track) (i : ℕ) (ts : List Track) (d : List ℕ) → i < length ts → 4 ≤ length d → {out out' s : List ℕ} → s ≡ row (get_or ts i e)
    → out ≡ take 4 d ++ rows (take i ts) ++ drop (4 + 5 * i) d → out' ≡ put_at out (4 + 5 * i) s
    → out' ≡ take 4 d ++ rows (take (i + 1) ts) ++ drop (4 + 5 * (i + 1)) d
unfolding row bytes32
rows_next e i ts d h hd es eo ep =
    let done : List ℕ = take 4 d ++ rows (take i ts) in
    let tk : length (take i ts) ≡ i = length-take-le i ts (omega arith) in
    let n : length done ≡ 4 + 5 * i = omega (arith, length-append (take 4 d) (rows (take i ts)), length-take-le 4 d hd, rows_length (take i ts)) in
    let q : 4 + 5 * (i + 1) ≡ 4 + 5 * i + 5 = omega arith in
    rw (ep, eo, es) (
    put_next done d (row (get_or ts i e)) (4 + 5 * i) n
    ∙ rw (q, add-one, rows_more e i ts h, ← append_assoc (take 4 d) (rows (take i ts)))
    )

pub rows_start : (ts : List Track) (d : List ℕ) → d ≡ take 4 d ++ rows (take 0 ts) ++ drop (4 + 5 * 0) d
unfolding rows
rows_start ts d = sym (rw append-nil (take-append-drop 4 d))

pub rows_end : (i : ℕ) (ts : List Track) (d : List ℕ) → length ts ≡ 99 → i ≡ 99
    → take 4 d ++ rows (take i ts) ++ drop (4 + 5 * i) d ≡ put_at d 4 (rows ts)
unfolding put_at
rows_end i ts d h e =
    let n : length (rows ts) ≡ 5 * i = omega (arith, rows_length ts) in
    rw (n, take_all i ts (omega arith))

-- what stands behind the rows
abbrev pub behind_rows : Order → List ℕ
behind_rows o = recipe_byte o.recipe ∷ replicate 10 0

module _ (o : Order) (h : length o.tracks ≡ 99) where
  pub rows_495 : length (rows o.tracks) ≡ 495
  rows_495 = omega (arith, rows_length o.tracks)

  pub body_length : length (order_body o) ≡ 510
  unfolding order_body
  body_length = omega (arith, rows_495, length-append (rows o.tracks) (behind_rows o))

  -- head, rows and what stands behind them, put one after the other
  body_put : (d : List ℕ)
      → put_at (put_at (put_at d 0 (1 ∷ method_byte o.method ∷ flags_byte o.keep o.protect o.immed o.erase ∷ o.count ∷ [])) 4 (rows o.tracks)) 499 (behind_rows o) ≡ order_body o ++ drop 510 d
  unfolding order_body
  body_put d =
      let head : List ℕ = 1 ∷ method_byte o.method ∷ flags_byte o.keep o.protect o.immed o.erase ∷ o.count ∷ [] in
      let r : List ℕ = rows o.tracks in
      let n : 4 + length r ≡ 499 = omega (arith, rows_495) in
      ap (λ (t : List ℕ). put_at (put_at t 4 r) 499 (behind_rows o)) (put_next [] d head 0 refl)
      ∙ ap (λ (t : List ℕ). put_at t 499 (behind_rows o)) (put_next head d r 4 refl ∙ ap (λ (k : ℕ). head ++ r ++ drop k d) n)
      ∙ put_next (head ++ r) d (behind_rows o) 499 (omega (arith, rows_495))

  -- as the code puts them
  pub body_steps : (d : List ℕ) {d₁ d₂ d₃ : List ℕ} {m f q : ℕ} → m ≡ method_byte o.method → f ≡ flags_byte o.keep o.protect o.immed o.erase → q ≡ recipe_byte o.recipe
      → d₁ ≡ put_at d 0 (1 ∷ m ∷ f ∷ o.count ∷ []) → d₂ ≡ put_at d₁ 4 (rows o.tracks) → d₃ ≡ put_at d₂ 499 (q ∷ replicate 10 0) → d₃ ≡ order_body o ++ drop 510 d
  body_steps d em ef eq p1 p2 p3 = cc (body_put d)

  -- the check, put behind it
  pub block_put : (d : List ℕ) → sealed (take 510 (order_body o ++ drop 510 d)) ≡ order_bytes o
  unfolding order_bytes
  block_put d = ap sealed (take_at (order_body o) (drop 510 d) 510 body_length)
