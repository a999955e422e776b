-- Order blocks read back to what was written, and a reader takes no others.
use mathlib.Core.Path.{◌≡◌, refl, sym, ap, ◌∙◌}
use mathlib.Core.List.{List, [], ◌∷◌, ◌++◌, append_assoc}
use mathlib.Core.Bool.{Bool, true, false, ◌&&◌}
use Prim.Native.Nat.{ℕ, zero, suc, ◌*◌, ◌/◌, ◌%◌, ◌≤◌, ◌<◌}
use native.Mathlib.Nat.{add-le-add}
use native.Mathlib.Omega.{arith}
use borrow.Author.Tests.{eqb-true, leb-true, le-leb}
use lib.Dec.{eqb, leb}
use lib.ListN.{length, get_or, take, drop, replicate, length-drop}
use lib.Seq.{drop_at, drop-drop, get_or_at, drop-cons, take-add, length-take-le}
use Rattle.mmc.specs.Block.{sealed, check_sum, block_fault}
use Rattle.basics.specs.Bytes.{if, bytes32, be32, all_zero}
use Rattle.mmc.specs.OrderBlock.{order_block, method_byte, method_of, flags_byte, keep_of, protect_of, immed_of, erase_of, recipe_byte, recipe_of, last_method, last_flags, last_recipe, head_ok, rest_ok, row, rows, order_body, order_bytes, kind_byte, kind_of, kinds_ok, track_of, tracks_of, fields_of, order_ok, read_order}
use Rattle.mmc.specs.Order.{valid_order}
use Rattle.mmc.proofs.order_block.Rows.{behind_rows, body_length, rows_495}
use Rattle.mmc.proofs.block.Laws.{sealed_ok, sealed_is, fault_length, read_listed, read_passed}
use Rattle.std.proofs.lemmas.Bool.{and_parts}
use Rattle.basics.proofs.Tests.{known}
use Rattle.basics.proofs.Bytes.{Bytes, be32_bytes32, bytes32_be32, zeros_are}
use Rattle.mmc.specs.Refusals.{pass, refuse}
use Rattle.mmc.specs.declared.order.Order.{Order}
use Rattle.mmc.specs.declared.order.Method.{Method}
use Rattle.mmc.specs.declared.order.Method.TheVariants.{Tao, Sao}
use Rattle.mmc.specs.declared.order.Recipe.{Recipe}
use Rattle.mmc.specs.declared.order.Recipe.TheVariants.{Old, New}
use Rattle.mmc.specs.declared.order.Track.{Track}
use Rattle.mmc.specs.declared.order.Kind.{Kind}
use Rattle.mmc.specs.declared.order.Kind.TheVariants.{Audio, Data}

-- ---- method, flags and recipe, there and back

method_back : (m : Method) → method_of (method_byte m) ≡ m
unfolding method_of
method_back Tao = refl
method_back Sao = refl

-- each flag of a byte that holds all four
flags_back : (k p i e : Bool) → (keep_of (flags_byte k p i e) ≡ k) × (protect_of (flags_byte k p i e) ≡ p) × (immed_of (flags_byte k p i e) ≡ i) × (erase_of (flags_byte k p i e) ≡ e)
unfolding keep_of protect_of immed_of erase_of
flags_back true true true true = (refl, refl, refl, refl)
flags_back true true true false = (refl, refl, refl, refl)
flags_back true true false true = (refl, refl, refl, refl)
flags_back true true false false = (refl, refl, refl, refl)
flags_back true false true true = (refl, refl, refl, refl)
flags_back true false true false = (refl, refl, refl, refl)
flags_back true false false true = (refl, refl, refl, refl)
flags_back true false false false = (refl, refl, refl, refl)
flags_back false true true true = (refl, refl, refl, refl)
flags_back false true true false = (refl, refl, refl, refl)
flags_back false true false true = (refl, refl, refl, refl)
flags_back false true false false = (refl, refl, refl, refl)
flags_back false false true true = (refl, refl, refl, refl)
flags_back false false true false = (refl, refl, refl, refl)
flags_back false false false true = (refl, refl, refl, refl)
flags_back false false false false = (refl, refl, refl, refl)

-- they are listed
most : (b : Bool) (n : ℕ) → if b n 0 ≤ n
most true n = omega arith
most false n = omega arith

flags_small : (k p i e : Bool) → leb (flags_byte k p i e) last_flags ≡ true
flags_small k p i e =
    let h : flags_byte k p i e ≤ 15 = add-le-add (add-le-add (add-le-add (most k _) (most p _)) (most i _)) (most e _) in
    le-leb (flags_byte k p i e) last_flags (omega (arith, h))

head_back : (m : Method) (f n : ℕ) (t : List ℕ) → leb f last_flags ≡ true → head_ok (1 ∷ method_byte m ∷ f ∷ n ∷ t) ≡ true
unfolding head_ok
head_back Tao f n t e = e
head_back Sao f n t e = e

method_is : (n : ℕ) → 1 ≤ n → n ≤ 2 → method_byte (method_of n) ≡ n
unfolding method_of
method_is zero h k = absurd (omega arith)
method_is (suc zero) h k = refl
method_is (suc (suc zero)) h k = refl
method_is (suc (suc (suc n))) h k = absurd (omega arith)

-- a test of each number below k
each : (ℕ → Bool) → ℕ → Bool
each f zero = true
each f (suc k) = f 0 && each (λ (n : ℕ). f (suc n)) k

each_is : (f : ℕ → Bool) (k n : ℕ) → each f k ≡ true → n < k → f n ≡ true
unfolding each
each_is f zero n e h = absurd (omega arith)
each_is f (suc k) zero e h = (and_parts (f 0) (each (λ (n : ℕ). f (suc n)) k) e).0
each_is f (suc k) (suc n) e h = each_is (λ (n : ℕ). f (suc n)) k n (and_parts (f 0) (each (λ (n : ℕ). f (suc n)) k) e).1 (omega arith)

-- the bytes from 0 to 15, by a test that is computed
flags_is : (n : ℕ) → n ≤ 15 → flags_byte (keep_of n) (protect_of n) (immed_of n) (erase_of n) ≡ n
unfolding each keep_of protect_of immed_of erase_of
flags_is n h = eqb-true _ n (each_is (λ (x : ℕ). eqb (flags_byte (keep_of x) (protect_of x) (immed_of x) (erase_of x)) x) 16 n refl (omega arith))

recipe_back : (q : Recipe) → recipe_of (recipe_byte q) ≡ q
recipe_back Old = refl
recipe_back New = refl

recipe_small : (q : Recipe) → leb (recipe_byte q) last_recipe ≡ true
recipe_small Old = refl
recipe_small New = refl

recipe_is : (n : ℕ) → n ≤ 1 → recipe_byte (recipe_of n) ≡ n
recipe_is zero h = refl
recipe_is (suc zero) h = refl
recipe_is (suc (suc n)) h = absurd (omega arith)

-- ---- the rows read back

kind_back : (k : Kind) → kind_of (kind_byte k) ≡ k
kind_back Audio = refl
kind_back Data = refl

kind_small : (k : Kind) → leb (kind_byte k) 1 ≡ true
kind_small Audio = refl
kind_small Data = refl

kind_is : (n : ℕ) → n ≤ 1 → kind_byte (kind_of n) ≡ n
kind_is zero h = refl
kind_is (suc zero) h = refl
kind_is (suc (suc n)) h = absurd (omega arith)

tracks_back : (ts : List Track) (t : List ℕ) → tracks_of (length ts) (rows ts ++ t) ≡ ts
unfolding tracks_of track_of rows row bytes32
tracks_back [] t = refl
tracks_back (x ∷ ts) t = rw (kind_back x.kind, be32_bytes32 x.length.0 (rows ts ++ t), tracks_back ts t)

kinds_back : (ts : List Track) (t : List ℕ) → kinds_ok (length ts) (rows ts ++ t) ≡ true
unfolding kinds_ok rows row bytes32
kinds_back [] t = refl
kinds_back (x ∷ ts) t = rw (kind_small x.kind, kinds_back ts t)

module _ (o : Order) (z : length o.tracks ≡ 99) where
  tail : List ℕ
  tail = behind_rows o ++ check_sum (order_body o) / 256 ∷ check_sum (order_body o) % 256 ∷ []

  -- the block from its rows on
  laid : order_bytes o ≡ 1 ∷ method_byte o.method ∷ flags_byte o.keep o.protect o.immed o.erase ∷ o.count ∷ (rows o.tracks ++ tail)
  unfolding order_bytes sealed order_body tail
  laid = ap (λ (t : List ℕ). 1 ∷ method_byte o.method ∷ flags_byte o.keep o.protect o.immed o.erase ∷ o.count ∷ t) (append_assoc (rows o.tracks) (behind_rows o) (check_sum (order_body o) / 256 ∷ check_sum (order_body o) % 256 ∷ []))

  recipe_at : get_or (order_bytes o) 499 0 ≡ recipe_byte o.recipe
  unfolding tail
  recipe_at = rw laid (get_or_at (rows o.tracks) (recipe_byte o.recipe) _ 0 495 (rows_495 o z))

  fields_back : fields_of (order_bytes o) ≡ o
  unfolding fields_of
  fields_back =
      let r : List ℕ = rows o.tracks ++ tail in
      let e : tracks_of 99 r ≡ o.tracks = ap (λ (n : ℕ). tracks_of n r) (sym z) ∙ tracks_back o.tracks tail in
      let f = flags_back o.keep o.protect o.immed o.erase in
      rw (recipe_at, recipe_back o.recipe, laid, e, method_back o.method, f.0, f.1, f.2, f.3)

  rest_back : rest_ok (order_bytes o) ≡ true
  unfolding all_zero tail
  rest_back =
      let r : List ℕ = rows o.tracks ++ tail in
      let e : drop 496 r ≡ drop 1 tail = sym (drop-drop 1 495 r) ∙ ap (drop 1) (drop_at (rows o.tracks) tail 495 (rows_495 o z)) in
      rw (recipe_at, recipe_small o.recipe, laid, e)

  no_fault : block_fault (order_bytes o) ≡ 0
  unfolding order_bytes
  no_fault = sealed_ok (order_body o) (body_length o z)

  -- what is written of an order is read back to it
  pub read_back : valid_order o ≡ true → read_order (order_bytes o) ≡ pass o
  unfolding read_order order_ok
  read_back v =
      let head : head_ok (order_bytes o) ≡ true = ap head_ok laid ∙ head_back o.method _ o.count _ (flags_small o.keep o.protect o.immed o.erase) in
      let kinds : kinds_ok 99 (drop 4 (order_bytes o)) ≡ true = rw (laid, ← z) (kinds_back o.tracks tail) in
      simp (head, kinds, fields_back, v, rest_back) (read_listed (order_bytes o) true o no_fault refl)

-- ---- a reader takes no other block

rows_are : (k : ℕ) (x : List ℕ) → 5 * k ≤ length x → Bytes x → kinds_ok k x ≡ true → rows (tracks_of k x) ≡ take (5 * k) x
unfolding rows row tracks_of track_of kinds_ok be32
rows_are zero x h u g = refl
rows_are (suc k) [] h u g = absurd (omega arith)
rows_are (suc k) (a ∷ []) h u g = absurd (omega arith)
rows_are (suc k) (a ∷ b ∷ []) h u g = absurd (omega arith)
rows_are (suc k) (a ∷ b ∷ c ∷ []) h u g = absurd (omega arith)
rows_are (suc k) (a ∷ b ∷ c ∷ d ∷ []) h u g = absurd (omega arith)
rows_are (suc k) (a ∷ b ∷ c ∷ d ∷ e ∷ x) h u g =
    let n : 5 * suc k ≡ suc (suc (suc (suc (suc (5 * k))))) = omega arith in
    let s = and_parts (leb a 1) (kinds_ok k x) g in
    rw (n, kind_is a (leb-true a 1 s.0), bytes32_be32 b c d e (u 1) (u 2) (u 3) (u 4), rows_are k x (omega arith) (λ i. u (suc (suc (suc (suc (suc i)))))) s.1)

-- a block whose fields are an order's is that order's body
body_is : (b : List ℕ) → Bytes b → length b ≡ 512 → head_ok b ≡ true → kinds_ok 99 (drop 4 b) ≡ true → rest_ok b ≡ true → take 510 b ≡ order_body (fields_of b)
unfolding order_body fields_of head_ok
body_is [] u n f g z = absurd (omega arith)
body_is (a ∷ []) u n f g z = absurd (omega arith)
body_is (a ∷ b ∷ []) u n f g z = absurd (omega arith)
body_is (a ∷ b ∷ c ∷ []) u n f g z = absurd (omega arith)
body_is (a ∷ b ∷ c ∷ d ∷ x) u n f g z =
    let r : rows (tracks_of 99 x) ≡ take 495 x = rows_are 99 x (omega arith) (λ i. u (suc (suc (suc (suc i))))) g in
    let t = and_parts (leb (get_or x 495 0) last_recipe) (all_zero (take 10 (drop 496 x))) z in
    let m : length (take 10 (drop 496 x)) ≡ 10 = length-take-le 10 (drop 496 x) (omega (arith, length-drop 496 x)) in
    let y : take 10 (drop 496 x) ≡ replicate 10 0 = zeros_are (take 10 (drop 496 x)) t.1 ∙ ap (λ (k : ℕ). replicate k 0) m in
    let v : take 11 (drop 495 x) ≡ recipe_byte (recipe_of (get_or x 495 0)) ∷ replicate 10 0 =
    ap (take 11) (drop-cons x 495 0 (omega arith)) ∙ rw (y, recipe_is (get_or x 495 0) (leb-true _ last_recipe t.0)) in
    let w : take 506 x ≡ rows (tracks_of 99 x) ++ recipe_byte (recipe_of (get_or x 495 0)) ∷ replicate 10 0 = take-add 495 11 x ∙ rw (r, v) in
    let p = and_parts (eqb a 1 && leb 1 b) (leb b last_method && leb c last_flags) f in
    let q = and_parts (eqb a 1) (leb 1 b) p.0 in
    let s = and_parts (leb b last_method) (leb c last_flags) p.1 in
    rw (eqb-true a 1 q.0, w, method_is b (leb-true 1 b q.1) (leb-true b last_method s.0), flags_is c (omega (arith, leb-true c last_flags s.1)))

-- ---- what the contracts carry

-- every order that is written reads back to itself
pub reads_back : (o : Order) → length o.tracks ≡ 99 → (b : List ℕ) → order_block o ≡ pass b → read_order b ≡ pass o
unfolding order_block
reads_back o z b e = known (valid_order o) yes' no'
  where
    yes' : valid_order o ≡ true → read_order b ≡ pass o
    yes' v = let w : pass (order_bytes o) ≡ pass b = simp v at e in let x : order_bytes o ≡ b = cc in rw (← x) (read_back o z v)

    no' : valid_order o ≡ false → read_order b ≡ pass o
    no' v = let w : refuse 3 ≡ pass b = simp v at e in absurd (let y : ◌≡◌ {A = ℕ} 0 1 = cc in omega arith)

-- every block that is read is the one that is written of the order read
pub written : (b : List ℕ) → Bytes b → (o : Order) → read_order b ≡ pass o → order_block o ≡ pass b
unfolding read_order order_ok order_bytes order_block
written b u o h =
    let t = read_passed b (order_ok b) (fields_of b) o h in
    let k = and_parts (head_ok b) (kinds_ok 99 (drop 4 b) && (valid_order (fields_of b) && rest_ok b)) t.1 in
    let g = and_parts (kinds_ok 99 (drop 4 b)) (valid_order (fields_of b) && rest_ok b) k.1 in
    let v = and_parts (valid_order (fields_of b)) (rest_ok b) g.1 in
    let e : b ≡ sealed (order_body (fields_of b)) = sealed_is b u t.0 ∙ ap sealed (body_is b u (fault_length b t.0) k.0 g.0 v.1) in
    rw (← t.2) (simp v.0 (ap pass (sym e)))
