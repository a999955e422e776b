-- The two recipes side by side: what is left of a plan, and of exchanges, without 5Bh function 1.
use Rattle.std.specs.Prelude.{Bool, true, false, ◌&&◌, ◌||◌, List, [], ◌∷◌, ℕ}
use Rattle.basics.specs.Bytes.{if}
use Rattle.mmc.specs.Refusals.{Outcome}
use Rattle.mmc.specs.ReplyBlock.{Reply}
use Rattle.mmc.specs.declared.order.Order.{Order}
use Rattle.mmc.specs.declared.order.Recipe.{Recipe}
use Rattle.recorder.specs.declared.script.Op.{Op}
use Rattle.recorder.specs.declared.script.Op.TheVariants.{GetConfiguration, ReadDiscInformation, ReadTrackInformation, ModeSelect, SendCueSheet, Write, SynchronizeCache, CloseTrack, CloseSession, Blank, TestUnitReady, RequestSense}
use Rattle.recorder.specs.Script.{is_poll, gather}
use Rattle.recorder.specs.Answers.{made_for}
use Rattle.recorder.specs.Exchanges.{Exchange, gathered}

-- the order, by a recipe
abbrev pub under : Recipe → Order → Order
under q o = record { method = o.method; keep = o.keep; protect = o.protect; immed = o.immed; erase = o.erase; recipe = q; count = o.count; tracks = o.tracks }

-- 5Bh function 1
abbrev pub is_function1 : Op → Bool
is_function1 GetConfiguration = false
is_function1 ReadDiscInformation = false
is_function1 (ReadTrackInformation t) = false
is_function1 (ModeSelect t) = false
is_function1 SendCueSheet = false
is_function1 (Write t f k) = false
is_function1 (SynchronizeCache t) = false
is_function1 (CloseTrack t) = true
is_function1 CloseSession = false
is_function1 Blank = false
is_function1 TestUnitReady = false
is_function1 RequestSense = false

-- a plan without it
abbrev pub other_ops : List Op → List Op
other_ops l = gather (λ x. if (is_function1 x) [] (x ∷ [])) l

-- the latest command that is no poll was function 1
abbrev pub closing_track : List Exchange → Bool
closing_track [] = false
closing_track (e ∷ es) = if (is_poll e.command.op) (closing_track es) (is_function1 e.command.op)

-- function 1, or a poll after it
abbrev pub of_function1 : List Exchange → Op → Bool
of_function1 before x = is_function1 x || (is_poll x && closing_track before)

-- the exchanges without these
abbrev pub others : List Exchange → List Exchange
others [] = []
others (e ∷ es) = if (of_function1 es e.command.op) (others es) (e ∷ others es)

-- the latest is one of these
abbrev pub latest_of_function1 : List Exchange → Bool
latest_of_function1 [] = false
latest_of_function1 (e ∷ es) = of_function1 es e.command.op

-- the replies, and the bytes of the commands, from the first on
abbrev pub replies_in : List Exchange → List Reply
replies_in es = gathered (λ e. e.reply ∷ []) es

abbrev pub bytes_given : Order → List Exchange → List (Outcome (List ℕ))
bytes_given o es = gathered (λ e. made_for o.immed o.count e.command ∷ []) es
