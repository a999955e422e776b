use mathlib.Core.Path.{◌≡◌, sym, subst}
use mathlib.Core.List.{◌++◌}
use Prim.Native.Nat.{ℕ}
use native.Mathlib.Omega.{arith}
use Rattle.std.specs.Prelude.{Result, Ok, Err}
use Rattle.cdtext.specs.declared.refusals.Refusal.{Refusal}
use Rattle.packs.specs.Answers.{answer_to, bytes_of}
use Rattle.packs.specs.Requests.{number_of}
use Rattle.packs.proofs.Steps.{few, made, read, checked}
use Rattle.packs.proofs.done.Goals as goal

pub returns-in_err-make_packs-in-Make : goal.returns-in_err-make_packs-in-Make
returns-in_err-make_packs-in-Make c =
    let a = c.args in
    let v = c.in_err-make_packs-in-Make in
    let r : c.from_residual.result ≡ Err v.field-0.0 = grind arith in
    subst (λ (x : Result ℕ Refusal). bytes_of x ++ c.make_packs.new.out ≡ answer_to (number_of a.operation) a.payload.now a.lent.now) (sym r)
    (made a.operation a.payload.now a.lent.now c.make_packs.new.out (Err v.field-0.0) c.in-Make.is v.ensures.0.filled)

pub overflow_cast-result : goal.overflow_cast-result
overflow_cast-result c = omega (arith, few 18 _ _ _ _ c.in_ok-make_packs-in-Make.ensures.0.filled c.requires)

pub returns-in_err-read_packs-in-Read : goal.returns-in_err-read_packs-in-Read
returns-in_err-read_packs-in-Read c =
    let a = c.args in
    let v = c.in_err-read_packs-in-Read in
    let r : c.from_residual-in_err-read_packs-in-Read.result ≡ Err v.field-0.0 = grind arith in
    subst (λ (x : Result ℕ Refusal). bytes_of x ++ c.read_packs.new.out ≡ answer_to (number_of a.operation) a.payload.now a.lent.now) (sym r)
    (read a.operation a.payload.now a.lent.now c.read_packs.new.out (Err v.field-0.0) c.in-Read.is v.ensures.filled)

pub overflow_cast-result-in-Read : goal.overflow_cast-result-in-Read
overflow_cast-result-in-Read c = omega (arith, few 1 _ _ _ _ c.in_ok-read_packs-in-Read.ensures.filled c.requires)

pub returns-in_ok-make_packs-in-Make : goal.returns-in_ok-make_packs-in-Make
returns-in_ok-make_packs-in-Make c =
    let a = c.args in
    let v = c.in_ok-make_packs-in-Make in
    made a.operation a.payload.now a.lent.now c.make_packs.new.out (Ok v.field-0) c.in-Make.is v.ensures.0.filled

pub returns-in_ok-read_packs-in-Read : goal.returns-in_ok-read_packs-in-Read
returns-in_ok-read_packs-in-Read c =
    let a = c.args in
    let v = c.in_ok-read_packs-in-Read in
    read a.operation a.payload.now a.lent.now c.read_packs.new.out (Ok v.field-0) c.in-Read.is v.ensures.filled

pub returns-in-Check : goal.returns-in-Check
returns-in-Check c = checked c.args.operation _ c.args.payload.now c.args.lent.now c.in-Check.is c.check_of.ensures
