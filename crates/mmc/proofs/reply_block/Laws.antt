-- Reply blocks read back to what was written, and a reader takes no others.
use mathlib.Core.Path.{◌≡◌, refl, sym, ap, ◌∙◌}
use mathlib.Core.List.{List, [], ◌∷◌, ◌++◌, append_assoc}
use mathlib.Core.Bool.{Bool, true, false, ◌&&◌}
use Prim.Native.Nat.{ℕ, zero, suc, ◌+◌, ◌*◌, ◌-◌, ◌/◌, ◌%◌, ◌≤◌}
use native.Mathlib.Omega.{arith}
use borrow.Author.Tests.{eqb-true, leb-true, le-leb}
use lib.Dec.{eqb, leb}
use lib.ListN.{length, get_or, take, drop, replicate, length-append, length-drop}
use lib.Seq.{take_at, drop_at, take-add, drop-drop, length-take-le}
use Rattle.std.specs.Int.{to_be_bytes, w16}
use Rattle.basics.specs.Bytes.{if, bytes16, all_zero, put_at}
use Rattle.mmc.specs.Refusals.{pass, refuse}
use Rattle.mmc.specs.Block.{sealed, check_sum, block_fault}
use Rattle.mmc.specs.ReplyBlock.{Reply, status_byte, reply_head, reply_body, reply_bytes, reply_block, data_length, reply_ok, reply_in, read_reply}
use Rattle.std.proofs.lemmas.Bool.{and_parts}
use Rattle.basics.proofs.Tests.{known}
use Rattle.basics.proofs.Lists.{zeros, zeros_length, drop_zeros, take_zeros}
use Rattle.basics.proofs.Bytes.{Bytes, zeros_are, zeros_zero, be_bytes16, put_next}
use Rattle.mmc.proofs.block.Laws.{sealed_ok, sealed_is, fault_length, read_listed, read_passed}

-- ---- the status

status_back : (g : Bool) → eqb (status_byte g) 0 ≡ g
status_back true = refl
status_back false = refl

status_small : (g : Bool) → status_byte g ≤ 1
status_small true = omega arith
status_small false = omega arith

ends_true : {a : Bool} → a ≡ true → (a && true) ≡ true
ends_true e = simp e

status_is : (n : ℕ) → n ≤ 1 → status_byte (eqb n 0) ≡ n
status_is zero h = refl
status_is (suc zero) h = refl
status_is (suc (suc n)) h = absurd (omega arith)

-- ---- what is written

-- the head, put before the data
pub head_put : (x : Reply) (d s two : List ℕ) (status : ℕ) → length x.bytes ≤ 506 → s ≡ x.bytes → status ≡ status_byte x.good → two ≡ to_be_bytes w16 (length s) → put_at (put_at d 0 (2 ∷ status ∷ get_or two 0 0 ∷ get_or two 1 0 ∷ [])) 4 s ≡ reply_head x ++ drop (4 + length x.bytes) d
unfolding reply_head
head_put x d s two status few es eg et =
    let head : List ℕ = 2 ∷ status_byte x.good ∷ bytes16 (length x.bytes) in
    rw (et, es, be_bytes16 (length x.bytes) (omega arith), eg, put_next [] d head 0 refl) (put_next head d x.bytes 4 refl)

module _ (x : Reply) (few : length x.bytes ≤ 506) where
  head_length : length (reply_head x) ≡ 4 + length x.bytes
  unfolding reply_head
  head_length = omega arith

  body_length : length (reply_body x) ≡ 510
  unfolding reply_body
  body_length = omega (arith, head_length, length-append (reply_head x) (replicate (506 - length x.bytes) 0), zeros_length (506 - length x.bytes))

  -- head and data over zeros, and the check behind them
  pub block_put : sealed (take 510 (reply_head x ++ drop (4 + length x.bytes) (replicate 512 0))) ≡ reply_bytes x
  unfolding reply_bytes reply_body
  block_put =
      let n : ℕ = length x.bytes in
      let e : 510 ≡ 4 + n + (506 - n) = omega arith in
      let t : take 510 (reply_head x ++ drop (4 + n) (replicate 512 0)) ≡ reply_head x ++ replicate (506 - n) 0 =
      ap (λ (k : ℕ). take k (reply_head x ++ drop (4 + n) (replicate 512 0))) e
      ∙ take-add (4 + n) (506 - n) (reply_head x ++ drop (4 + n) (replicate 512 0))
      ∙ rw (take_at (reply_head x) (drop (4 + n) (replicate 512 0)) (4 + n) head_length, drop_at (reply_head x) (drop (4 + n) (replicate 512 0)) (4 + n) head_length, drop_zeros (4 + n) 512 (omega arith))
      (ap (λ (l : List ℕ). reply_head x ++ l) (take_zeros (506 - n) (512 - (4 + n)) (omega arith))) in
      ap sealed t

  -- the block from its head on
  laid : reply_bytes x ≡ reply_head x ++ (replicate (506 - length x.bytes) 0 ++ bytes16 (check_sum (reply_body x)))
  unfolding reply_bytes sealed reply_body
  laid = append_assoc (reply_head x) (replicate (506 - length x.bytes) 0) (bytes16 (check_sum (reply_body x)))

  head_is : (t : List ℕ) → (get_or (reply_head x ++ t) 0 0 ≡ 2) × (get_or (reply_head x ++ t) 1 0 ≡ status_byte x.good) × (data_length (reply_head x ++ t) ≡ length x.bytes) × (drop 4 (reply_head x ++ t) ≡ x.bytes ++ t)
  unfolding reply_head
  head_is t = (refl, refl, omega arith, refl)

  rest_zero : all_zero (take (506 - length x.bytes) (drop (4 + length x.bytes) (reply_bytes x))) ≡ true
  rest_zero =
      let n : ℕ = length x.bytes in
      let z : List ℕ = replicate (506 - n) 0 in
      let c : List ℕ = bytes16 (check_sum (reply_body x)) in
      rw (laid, drop_at (reply_head x) (z ++ c) (4 + n) head_length, take_at z c (506 - n) (zeros_length (506 - n))) (zeros_zero (506 - n))

  no_fault : block_fault (reply_bytes x) ≡ 0
  unfolding reply_bytes
  no_fault = sealed_ok (reply_body x) body_length

  pub read_back : read_reply (reply_bytes x) ≡ pass x
  unfolding read_reply reply_ok reply_in
  read_back =
      let n : ℕ = length x.bytes in
      let t : List ℕ = replicate (506 - n) 0 ++ bytes16 (check_sum (reply_body x)) in
      let h = head_is t in
      let d : data_length (reply_bytes x) ≡ n = ap data_length laid ∙ h.2 in
      let a : get_or (reply_bytes x) 0 0 ≡ 2 = ap (λ (l : List ℕ). get_or l 0 0) laid ∙ h.0 in
      let s : get_or (reply_bytes x) 1 0 ≡ status_byte x.good = ap (λ (l : List ℕ). get_or l 1 0) laid ∙ h.1 in
      let b : take n (drop 4 (reply_bytes x)) ≡ x.bytes = ap (λ (l : List ℕ). take n (drop 4 l)) laid ∙ ap (take n) h.3 ∙ take_at x.bytes t n refl in
      simp (d, a, s, b, rest_zero, status_back x.good, le-leb n 506 few) (read_listed (reply_bytes x) _ x no_fault (ends_true (le-leb (status_byte x.good) _ (omega (arith, status_small x.good)))))

-- every reply that is written reads back to itself
pub reads_back : (x : Reply) (b : List ℕ) → reply_block x ≡ pass b → read_reply b ≡ pass x
unfolding reply_block
reads_back x b e = known (leb (length x.bytes) 506) yes' no'
  where
    yes' : leb (length x.bytes) 506 ≡ true → read_reply b ≡ pass x
    yes' v = let w : pass (reply_bytes x) ≡ pass b = simp v at e in let y : reply_bytes x ≡ b = cc in rw (← y) (read_back x (leb-true _ _ v))

    no' : leb (length x.bytes) 506 ≡ false → read_reply b ≡ pass x
    no' v = let w : refuse 3 ≡ pass b = simp v at e in absurd (let y : ◌≡◌ {A = ℕ} 0 1 = cc in omega arith)

-- ---- a reader takes no other block

-- the zeros behind the data, counted from the data's start
gap_zero : (a s h l : ℕ) (r : List ℕ) (k : ℕ) → all_zero (take (506 - k) (drop (4 + k) (a ∷ s ∷ h ∷ l ∷ r))) ≡ true → all_zero (take (506 - k) (drop k r)) ≡ true
gap_zero a s h l r k e =
    let d : drop k r ≡ drop (4 + k) (a ∷ s ∷ h ∷ l ∷ r) = drop-drop k 4 (a ∷ s ∷ h ∷ l ∷ r) in
    rw d e

body_is : (b : List ℕ) → Bytes b → length b ≡ 512 → reply_ok b ≡ true → (take 510 b ≡ reply_body (reply_in b)) × (length (reply_in b).bytes ≤ 506)
unfolding reply_ok reply_body reply_head reply_in
body_is [] u n f = absurd (omega arith)
body_is (a ∷ []) u n f = absurd (omega arith)
body_is (a ∷ s ∷ []) u n f = absurd (omega arith)
body_is (a ∷ s ∷ h ∷ []) u n f = absurd (omega arith)
body_is (a ∷ s ∷ h ∷ l ∷ r) u n f =
    let k : ℕ = h * 256 + l in
    let p = and_parts (eqb a 2) (leb s _ && (leb k 506 && all_zero (take (506 - k) (drop (4 + k) (a ∷ s ∷ h ∷ l ∷ r))))) f in
    let q = and_parts (leb s _) (leb k 506 && all_zero (take (506 - k) (drop (4 + k) (a ∷ s ∷ h ∷ l ∷ r)))) p.1 in
    let z = and_parts (leb k 506) (all_zero (take (506 - k) (drop (4 + k) (a ∷ s ∷ h ∷ l ∷ r)))) q.1 in
    let m : k ≤ 506 = leb-true k 506 z.0 in
    let len : length (take k r) ≡ k = length-take-le k r (omega arith) in
    let gap : List ℕ = take (506 - k) (drop k r) in
    let glen : length gap ≡ 506 - k = length-take-le (506 - k) (drop k r) (omega (arith, length-drop k r)) in
    let g : gap ≡ zeros (506 - k) = zeros_are gap (gap_zero a s h l r k z.1) ∙ ap zeros glen in
    let e : 506 ≡ k + (506 - k) = omega arith in
    let t : take 506 r ≡ take k r ++ zeros (506 - k) = ap (λ (j : ℕ). take j r) e ∙ take-add k (506 - k) r ∙ rw g in
    let hi : k / 256 ≡ h = omega (arith, u 3) in
    let lo : k % 256 ≡ l = omega (arith, u 3) in
    (rw (len, hi, lo, t, eqb-true a 2 p.0, status_is s (omega (arith, leb-true s _ q.0))), omega (arith, len))

-- ---- the zeros behind the data

-- only zeros stand behind the bytes that are summed
pub summed : (b : List ℕ) (e n : ℕ) (so : Bool) → e ≤ 510 → so ≡ all_zero (take (510 - e) (drop e b)) → n ≡ if so e 510 → (n ≤ 510) × (all_zero (take (510 - n) (drop n b)) ≡ true)
unfolding all_zero
summed b e n true h z p = (omega arith, rw p (sym z))
summed b e n false h z p = (omega arith, rw p refl)

-- every block that is read is the one that is written of the reply read
pub written : (b : List ℕ) → Bytes b → (x : Reply) → read_reply b ≡ pass x → reply_block x ≡ pass b
unfolding read_reply reply_bytes reply_block
written b u x h =
    let t = read_passed b (reply_ok b) (reply_in b) x h in
    let w = body_is b u (fault_length b t.0) t.1 in
    let e : b ≡ sealed (reply_body (reply_in b)) = sealed_is b u t.0 ∙ ap sealed w.0 in
    rw (← t.2) (simp (le-leb _ _ w.1) (ap pass (sym e)))
