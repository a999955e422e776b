use Rattle.std.proofs.Common.{◌≡◌, sym, length, rules}
use Rattle.std.proofs.lemmas.Result.{err_from_is_err_and}
use Rattle.basics.proofs.Lists.{mapped_length}
use Rattle.mmc.specs.Sheet.{cue_sheet, sheet_fault}
use Rattle.mmc.proofs.refusals.Laws.{numbered, fills_of, fills_not}
use Rattle.mmc.proofs.sheet.Laws.{makes}
use Rattle.mmc.proofs.sheet.make_sheet.Goals as goal

pub returns-in_err-check_sheet : goal.returns-in_err-check_sheet
unfolding cue_sheet
returns-in_err-check_sheet c =
    let sized : length c.args.o.tracks ≡ 99 = search (rules, mapped_length) in
    let p = err_from_is_err_and c.from_residual.result c.from_residual.ensures.1 in
    let r = c.in_err-check_sheet.field-0.0 in
    rw (p.1, p.2) (makes c.args.o sized (fills_not r c.args.out.now (simp (sym c.in_err-check_sheet.ensures, numbered r))))

pub returns : goal.returns
unfolding cue_sheet
returns c =
    let sized : length c.args.o.tracks ≡ 99 = search (rules, mapped_length) in
    let faultless : sheet_fault c.args.o ≡ 0 = sym c.in_ok-check_sheet.ensures in
    makes c.args.o sized (fills_of (simp faultless) c.fill_sheet.ensures)
