-- An order as it is read from a block has 1 to 99 tracks, and a track at once has a block by the new recipe too.
use mathlib.Core.Path.{◌≡◌, refl, ap, subst}
use mathlib.Core.Bool.{Bool, true, false}
use mathlib.Core.List.{List}
use Prim.Native.Nat.{ℕ, zero, suc, ◌≤◌}
use native.Mathlib.Omega.{arith}
use borrow.Author.Tests.{leb-true}
use lib.Dec.{eqb, leb}
use lib.ListN.{length, get_or, drop, length-take}
use Rattle.basics.specs.Bytes.{if}
use Rattle.mmc.specs.Refusals.{pass, refuse, value_or}
use Rattle.mmc.specs.Block.{block_fault, block_read}
use Rattle.mmc.specs.Order.{most_tracks, valid_order}
use Rattle.mmc.specs.OrderBlock.{order_bytes, order_block, tracks_of, kinds_ok, fields_of, head_ok, order_ok, read_order}
use Rattle.mmc.specs.declared.order.Order.{Order}
use Rattle.mmc.specs.declared.order.Method.TheVariants.{Tao}
use Rattle.mmc.specs.declared.order.Recipe.TheVariants.{New}
use Rattle.mmc.proofs.order_block.Laws.{reads_back}
use Rattle.recorder.specs.Recipes.{under}
use Rattle.std.proofs.lemmas.Bool.{and_parts}
use Rattle.recorder.proofs.Lists.{if_yes, clash}
use Rattle.recorder.proofs.Behind.{Sized}

rows_length : (k : ℕ) (b : List ℕ) → length (tracks_of k b) ≡ k
unfolding tracks_of
rows_length zero b = refl
rows_length (suc k) b = ap suc (rows_length k (drop 5 b))

fields_sized : (b : List ℕ) → valid_order (fields_of b) ≡ true → Sized (fields_of b)
unfolding valid_order fields_of
fields_sized b v =
    let n = and_parts (leb 1 (get_or b 3 0)) _ v in
    let m = and_parts (leb (get_or b 3 0) most_tracks) _ n.1 in
    let few : get_or b 3 0 ≤ most_tracks = leb-true _ _ m.0 in
    let rows = rows_length 99 (drop 4 b) in
    record { some = leb-true _ _ n.0; few = few; rows = rows; all = omega (arith, length-take (get_or b 3 0) (tracks_of 99 (drop 4 b)), rows); valid = v }

pub read_sized : (b : List ℕ) (o : Order) → read_order b ≡ pass o → Sized o
unfolding read_order block_read order_ok
read_sized b o = go (eqb (block_fault b) 0) (order_ok b) refl
  where
    go : (x y : Bool) → order_ok b ≡ y → if x (if y (pass (fields_of b)) (refuse 3)) (refuse (block_fault b)) ≡ pass o → Sized o
    go true true q e =
        let v = (and_parts (valid_order (fields_of b)) _ (and_parts (kinds_ok 99 (drop 4 b)) _ (and_parts (head_ok b) _ q).1).1).0 in
        subst Sized (ap (value_or (fields_of b)) e) (fields_sized b v)
    go true false q e = clash (cc)
    go false y q e = clash (cc)

-- ---- by the new recipe

valid_newer : (o : Order) → o.method ≡ Tao → valid_order o ≡ true → valid_order (under New o) ≡ true
unfolding valid_order
valid_newer o t v = rw t (rw t at v)

-- a track at once has a block by the new recipe
pub newer_block : (b : List ℕ) (o : Order) → read_order b ≡ pass o → o.method ≡ Tao → (c : List ℕ) × (read_order c ≡ pass (under New o))
unfolding order_block
newer_block b o e t =
    let z = read_sized b o e in
    let v = valid_newer o t z.valid in
    (order_bytes (under New o), reads_back (under New o) z.rows (order_bytes (under New o)) (if_yes _ _ v))
