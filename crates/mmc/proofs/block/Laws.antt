-- A block that was sealed has no fault, and a block without a fault was sealed.
use mathlib.Core.Path.{◌≡◌, refl, sym, ap, ◌∙◌}
use mathlib.Core.List.{List, [], ◌∷◌, ◌++◌, append-nil}
use mathlib.Core.Bool.{Bool, true, false}
use Prim.Native.Nat.{ℕ, ◌*◌, ◌+◌, ◌-◌, ◌/◌, ◌%◌, ◌≤◌}
use native.Mathlib.Omega.{arith}
use borrow.Author.Tests.{eq-eqb, ne_eqb, eqb-true}
use lib.Dec.{eqb}
use lib.ListN.{length, get_or, take, drop, length-drop, take-append-drop, length-append, drop_of_length-le}
use lib.Seq.{take_at, drop_at, drop-cons, take-add, take_all}
use Rattle.std.specs.Int.{to_be_bytes, w16}
use Rattle.basics.specs.Bytes.{if, be16, bytes16, sum_of, all_zero, put_at}
use Rattle.mmc.specs.Refusals.{pass, refuse, number_of}
use Rattle.mmc.specs.Block.{check_sum, sealed, block_fault, block_read}
use Rattle.mmc.specs.declared.refusals.Refusal.{Refusal}
use Rattle.mmc.proofs.refusals.Laws.{numbered}
use Rattle.basics.proofs.Tests.{if_zero}
use Rattle.basics.proofs.Bytes.{sum_append, zeros_sum, be_bytes16, Bytes}

pub fault_length : (b : List ℕ) → block_fault b ≡ 0 → length b ≡ 512
unfolding block_fault
fault_length b e = eqb-true (length b) 512 (if_zero (eqb (length b) 512) _ 1 (omega arith) e)

pub wrong_length : (b : List ℕ) → (length b ≡ 512 → ⊥) → block_fault b ≡ 1
unfolding block_fault
wrong_length b n = simp (ne_eqb _ _ n)

-- zeros behind the first n of bytes 0 to 509 add nothing to their sum
pub sum_first : (b : List ℕ) (n : ℕ) → n ≤ 510 → all_zero (take (510 - n) (drop n b)) ≡ true → sum_of (take n b) ≡ sum_of (take 510 b)
sum_first b n h z =
    let e : n + (510 - n) ≡ 510 = omega arith in
    let t : take 510 b ≡ take n b ++ take (510 - n) (drop n b) = ap (λ (k : ℕ). take k b) (sym e) ∙ take-add n (510 - n) b in
    omega (arith, ap sum_of t, sum_append (take n b) (take (510 - n) (drop n b)), zeros_sum (take (510 - n) (drop n b)) z)

-- the fault of a block, by the sum of its first n bytes where only zeros follow
pub first_fault : (b : List ℕ) (n held sum : ℕ) → length b ≡ 512 → n ≤ 510 → all_zero (take (510 - n) (drop n b)) ≡ true → held ≡ be16 (take 2 (drop 510 b)) → sum ≡ sum_of (take n b) → block_fault b ≡ if (eqb held (sum % 65536)) 0 2
unfolding block_fault check_sum
first_fault b n held sum len h z eh es =
    let t : take 2 (drop 510 b) ≡ drop 510 b = take_all 2 (drop 510 b) (omega (arith, length-drop 510 b)) in
    rw (eq-eqb _ _ len, eh, t, es, sum_first b n h z)

-- the check, put behind bytes 0 to 509
pub check_put : (d : List ℕ) (sum : ℕ) → length d ≡ 512 → sum ≡ sum_of (take 510 d) → put_at d 510 (to_be_bytes w16 (sum % 65536)) ≡ sealed (take 510 d)
unfolding put_at sealed check_sum
check_put d sum z e = rw (e, be_bytes16 (sum_of (take 510 d) % 65536) (omega arith), drop_of_length-le d {i = 512} (omega arith)) (append-nil (take 510 d ++ bytes16 (sum_of (take 510 d) % 65536)))

pub sealed_ok : (body : List ℕ) → length body ≡ 510 → block_fault (sealed body) ≡ 0
unfolding block_fault sealed
sealed_ok body n =
    let cs : ℕ = check_sum body in
    let len : length (body ++ bytes16 cs) ≡ 512 = omega (arith, length-append body (bytes16 cs)) in
    simp (eq-eqb _ _ len, take_at body (bytes16 cs) 510 n, drop_at body (bytes16 cs) 510 n) (rw (eq-eqb (cs / 256 * 256 + cs % 256) cs (omega arith)))

pub sealed_is : (b : List ℕ) → Bytes b → block_fault b ≡ 0 → b ≡ sealed (take 510 b)
unfolding block_fault sealed
sealed_is b u e =
    let len : length b ≡ 512 = fault_length b e in
    let t : drop 510 b ≡ get_or b 510 0 ∷ get_or b 511 0 ∷ [] = drop-cons b 510 0 (omega arith) ∙ ap (λ (l : List ℕ). get_or b 510 0 ∷ l) (drop-cons b 511 0 (omega arith) ∙ ap (λ (l : List ℕ). get_or b 511 0 ∷ l) (drop_of_length-le b {i = 512} (omega arith))) in
    let e2 : ◌≡◌ {A = ℕ} (if (eqb (be16 (drop 510 b)) (check_sum (take 510 b))) 0 2) 0 = simp (eq-eqb _ _ len) at e in
    let cs : be16 (drop 510 b) ≡ check_sum (take 510 b) = eqb-true _ _ (if_zero _ 0 2 (omega arith) e2) in
    let cs2 : get_or b 510 0 * 256 + get_or b 511 0 ≡ check_sum (take 510 b) = sym (ap be16 t) ∙ cs in
    let hi : check_sum (take 510 b) / 256 ≡ get_or b 510 0 = omega (arith, u 511) in
    let lo : check_sum (take 510 b) % 256 ≡ get_or b 511 0 = omega (arith, u 511) in
    sym (rw (hi, lo, ← t) (take-append-drop 510 b))

-- ---- what a reader finds in a block

module _ {A : Type 0} (b : List ℕ) (listed : Bool) (x : A) where
  pub read_faulty : (r : Refusal) → block_fault b ≡ number_of r → block_read b listed x ≡ refuse (number_of r)
  unfolding block_read
  read_faulty r e = rw (e, numbered r)

  -- without a fault, the fields decide
  pub read_whole : block_fault b ≡ 0 → block_read b listed x ≡ if listed (pass x) (refuse 3)
  unfolding block_read
  read_whole e = rw e refl

  pub read_unlisted : block_fault b ≡ 0 → listed ≡ false → block_read b listed x ≡ refuse 3
  unfolding block_read
  read_unlisted e f = rw (e, f)

  pub read_listed : block_fault b ≡ 0 → listed ≡ true → block_read b listed x ≡ pass x
  unfolding block_read
  read_listed e f = rw (e, f)

  pub read_passed : (a : A) → block_read b listed x ≡ pass a → (block_fault b ≡ 0) × (listed ≡ true) × (x ≡ a)
  unfolding block_read
  read_passed a e = by (block_fault b) listed (eqb (block_fault b) 0) refl e
    where
      by : (f : ℕ) (k t : Bool) → eqb f 0 ≡ t → if t (if k (pass x) (refuse 3)) (refuse f) ≡ pass a → (f ≡ 0) × (k ≡ true) × (x ≡ a)
      by f true true z h = (eqb-true f 0 z, refl, cc)
      by f false true z h = absurd (let y : ◌≡◌ {A = ℕ} 0 1 = cc in omega arith)
      by f k false z h = absurd (let y : ◌≡◌ {A = ℕ} 0 1 = cc in omega arith)
