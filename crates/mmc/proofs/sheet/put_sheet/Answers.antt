use Rattle.std.proofs.Common.{◌≡◌, length, arith, rules}
use Rattle.basics.proofs.Lists.{mapped_length}
use Rattle.mmc.proofs.sheet.Entries.{sheet_steps}
use Rattle.mmc.proofs.sheet.put_sheet.Goals as goal

pub returns : goal.returns
returns c =
    let sized : length c.args.o.now.tracks ≡ 99 = search (rules, mapped_length) in
    let few = sheet_steps c.args.o.now c.args.out.now (omega (arith, sized, c.requires.few)) in
    few c.kind-kind.ensures c.lead_in_entry.ensures c.put.ensures c.pause_entry.ensures c.put-2.ensures c.put_tracks.ensures
