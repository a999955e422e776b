use Rattle.std.proofs.Common.{arith, ◌≡◌, ◌∙◌, sym, [], ◌∷◌}
use Rattle.std.specs.List.{list_all}
use Rattle.std.proofs.lemmas.Iterator.{YieldsList-from_slice}
use Rattle.std.proofs.lemmas.Iterator.Search.{all_from_yields_List}
use Rattle.mmc.specs.Order.{tracks_in, all_long}
use Rattle.mmc.specs.declared.order.Track.{Track}
use Rattle.mmc.proofs.order.Tracks.{long_each}
use Rattle.mmc.proofs.order.Order.all_long.Goals as goal

pub returns : goal.returns
unfolding all_long
returns c =
    let ts = tracks_in c.args.self.now in
    let each : c.all.result ≡ list_all (λ (t : Track). all_long (t ∷ [])) ts =
    all_from_yields_List (λ (t : Track). all_long (t ∷ [])) _ _ c.all.result c.all.ensures.ran
    (YieldsList-from_slice ts cc) (λ x b q r. grind arith) in
    each ∙ sym (long_each ts)
