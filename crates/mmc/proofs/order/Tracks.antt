-- What is judged of tracks is judged of each, and the sum of their lengths is a sum over each.
use Rattle.std.proofs.Common.{◌≡◌, refl, ◌≤◌, true, not, ◌&&◌, List, [], ◌∷◌, drop, leb, arith}
use Rattle.std.specs.List.{list_all, sum_by}
use Rattle.std.proofs.lemmas.List.Sums.{sum_by-cons}
use Rattle.std.proofs.Math.Bool.{and-true}
use borrow.Author.Tests.{leb-true}
use Rattle.mmc.specs.Order.{is_none, all_none, new_sao, valid_order, same_kind, all_kind, all_long, blocks_of}
use Rattle.mmc.specs.declared.order.Order.{Order}
use Rattle.mmc.specs.declared.order.Track.{Track}
use Rattle.mmc.specs.declared.order.Kind.{Kind}
use Rattle.std.proofs.lemmas.Bool.{and_parts}

pub none_each : (ts : List Track) → all_none ts ≡ list_all is_none ts
unfolding all_none
none_each [] = refl
none_each (t ∷ ts) = rw (none_each ts)

pub kind_each : (k : Kind) (ts : List Track) → all_kind k ts ≡ list_all (λ t. same_kind k t.kind) ts
unfolding all_kind
kind_each k [] = refl
kind_each k (t ∷ ts) = rw (kind_each k ts)

pub long_each : (ts : List Track) → all_long ts ≡ list_all (λ t. all_long (t ∷ [])) ts
unfolding all_long
long_each [] = refl
long_each (t ∷ ts) = rw (and-true, long_each ts)

pub blocks_each : (ts : List Track) → blocks_of ts ≡ sum_by (λ t. t.length.0) ts
unfolding blocks_of
blocks_each [] = refl
blocks_each (t ∷ ts) = rw (blocks_each ts, sum_by-cons)

pub valid_few : (o : Order) → valid_order o ≡ true → o.count ≤ 99
unfolding valid_order
valid_few o v =
    let w = and_parts (leb _ o.count) (leb o.count _ && (all_none (drop o.count o.tracks) && not (new_sao o))) v in
    omega (arith, leb-true o.count _ (and_parts (leb o.count _) (all_none (drop o.count o.tracks) && not (new_sao o)) w.1).0)
