use Rattle.std.proofs.Common.{arith, rules}
use Rattle.mmc.proofs.sheet.Entries.{putting_start, putting_next, putting_end, at_time}
use Rattle.mmc.proofs.sheet.put_tracks.Goals as goal

pub loop-i-init : goal.loop-i-init
loop-i-init c = putting_start _ c.args.o.now _ _ c.requires c.ordered-tracks.ensures.0

pub start_entry-requires : goal.start_entry-requires
start_entry-requires c = (search rules, at_time _ _ _ _ _ _ c.loop-i.invariant)

pub behind-at-requires : goal.behind-at-requires
behind-at-requires c = at_time _ _ _ _ _ _ c.loop-i.invariant

pub loop-i-preserved : goal.loop-i-preserved
loop-i-preserved c =
    let next = putting_next _ _ _ _ _ _ c.loop-i.invariant (omega arith) in
    rw c.behind-at.ensures (next _ (rw (← c.start_entry.ensures) c.put.ensures) c.put.auto.out)

pub lead_out_entry-requires : goal.lead_out_entry-requires
lead_out_entry-requires c = at_time _ _ _ _ _ _ c.loop-i.invariant

pub returns : goal.returns
returns c =
    let end = putting_end _ _ _ _ _ _ c.loop-i.invariant (omega arith) c.args.o.now c.kind-kind.ensures c.ordered-tracks.ensures.0 in
    end _ _ c.lead_out_entry.ensures c.put-2.ensures
