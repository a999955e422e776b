use Rattle.std.proofs.Common.{◌≡◌, ◌∙◌, ℕ, ◌+◌, ◌-◌, ◌*◌, List, Result, sym, arith, rules, length, take, drop, length-drop, take_all}
use Rattle.mmc.specs.OrderBlock.{listed, kinds_ok, track_of}
use Rattle.mmc.specs.declared.order.Track.{Track}
use Rattle.mmc.specs.declared.refusals.Refusal.{Refusal}
use Rattle.mmc.proofs.order_block.Listed.{was_listed, left}
use Rattle.mmc.proofs.order_block.Rows.{kinds_next, kinds_end, track_next, track_end}
use Rattle.mmc.proofs.order_block.tracks_of.Goals as goal

-- what track_of found in all that is left of a block
row_at : (b : List ℕ) (p : ℕ) {r : Result Track Refusal} → length b ≡ 512
    → (let x = take (512 - p) (drop p b) in r ≡ listed (kinds_ok 1 x) (track_of x))
    → r ≡ listed (kinds_ok 1 (drop p b)) (track_of (drop p b))
row_at b p n e =
    let all : take (512 - p) (drop p b) ≡ drop p b = take_all (512 - p) (drop p b) (omega (arith, length-drop p b)) in
    simp all at e

pub loop-i-preserved : goal.loop-i-preserved
loop-i-preserved c =
    let b = c.args.b.now in
    let i = c.loop-i.i in
    let v = c.loop-i.invariant in
    let w = was_listed _ _ _ (row_at b (4 + 5 * i) c.told-b c.in_ok-t.ensures) in
    record {
      kinds = sym (kinds_next b i c.loop-i-test.true ∙ simp w.0) ∙ v.kinds;
      tracks = track_next b c.loop-i.t-items i c.in_ok-t.field-0 c.loop-i-test.true v.sized w.1 ∙ v.tracks;
      sized = search rules;
    }

pub returns-in_err-t : goal.returns-in_err-t
returns-in_err-t c =
    let b = c.args.b.now in
    let i = c.loop-i.i in
    left _ _ c.from_residual.ensures.1 (row_at b (4 + 5 * i) c.told-b c.in_err-t.ensures)
    (λ f. sym c.loop-i.invariant.kinds ∙ kinds_next b i c.loop-i-test.true ∙ simp f)

pub returns : goal.returns
returns c =
    let b = c.args.b.now in
    let i = c.loop-i.i in
    let v = c.loop-i.invariant in
    let k = sym v.kinds ∙ kinds_end b i c.loop-i-test.false in
    rw (k, sym v.tracks ∙ track_end b c.loop-i.t-items i c.loop-i-test.false c.loop-i-test.array_long)
