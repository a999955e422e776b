-- What the conversions for C hand over: 0 and the value in the place that is lent, or the refusal's number and the place as it was.
use Rattle.std.specs.Prelude.{ℕ, List, set, ℤ}
use Rattle.mmc.specs.Refusals.{Outcome, pass, refuse}
use Rattle.mmc.specs.declared.units.BlockAddress.{BlockAddress}
use Rattle.mmc.specs.declared.times.Time.{Time}

abbrev pub number_given : {A : Type 0} → Outcome A → ℕ
number_given (pass a) = 0
number_given (refuse n) = n

-- minute, second and frame as bytes 0, 1 and 2
abbrev pub time_given : Outcome Time → List ℕ → List ℕ
time_given (pass t) before = set (set (set before 0 t.minute) 1 t.second) 2 t.frame
time_given (refuse n) before = before

abbrev pub address_given : Outcome BlockAddress → ℤ → ℤ
address_given (pass a) before = a.0
address_given (refuse n) before = before
