-- The numbers a refusal bears, and what an answer that can be a refusal says.
use Rattle.std.specs.Prelude.{ℕ, ◌*◌, Result, Ok, Err}
use Rattle.mmc.specs.Refusals.{Outcome, pass, refuse}
use Rattle.cdtext.specs.declared.refusals.Refusal.{Refusal}
use Rattle.cdtext.specs.declared.refusals.Refusal.TheVariants.{ShortBuffer, TitleNotAllowed, NoPacks, TooManyPacks}

-- "17 for a title not allowed .., 18 for packs that no titles give, 19 for more than 255 packs in all; 11 stays last"
abbrev pub number_of : Refusal → ℕ
number_of ShortBuffer = 11
number_of TitleNotAllowed = 17
number_of NoPacks = 18
number_of TooManyPacks = 19

-- what an answer says of things of so many bytes each: the bytes of all of them, or the number
abbrev pub outcome_of : ℕ → Result ℕ Refusal → Outcome ℕ
outcome_of size (Ok n) = pass (size * n)
outcome_of size (Err r) = refuse (number_of r)
