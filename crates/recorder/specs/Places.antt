-- The places of the plain job: which operation comes after another. The rules don't speak of them: they have the script. A poll has no
-- place of its own: the job stays at the operation that is polled. A1h has one, from which the job goes back to 51h.
use Rattle.std.specs.Prelude.{ℕ, zero, suc, ◌+◌, get_or, ltb, Option, Some, None}
use Rattle.basics.specs.Bytes.{if}
use Rattle.mmc.specs.Order.{no_track}
use Rattle.mmc.specs.Times.{lead_frames}
use Rattle.mmc.specs.declared.order.Order.{Order}
use Rattle.mmc.specs.declared.order.Method.{Method}
use Rattle.mmc.specs.declared.order.Method.TheVariants.{Tao, Sao}
use Rattle.mmc.specs.declared.order.Recipe.{Recipe}
use Rattle.mmc.specs.declared.order.Recipe.TheVariants.{Old, New}
use Rattle.recorder.specs.declared.script.Op.{Op}
use Rattle.recorder.specs.declared.script.Op.TheVariants.{GetConfiguration, ReadDiscInformation, ReadTrackInformation, ModeSelect, SendCueSheet, Write, SynchronizeCache, CloseTrack, CloseSession, Blank, TestUnitReady, RequestSense}
use Rattle.recorder.specs.Script.{write, portion, track_in, of_write}

-- ---- which operation comes after another, of n tracks; the piece at hand, the pause or a track, has l blocks, the next one k

-- the piece t has ended: 35h, or in SAO the next track
unfoldable pub piece_ended : Method → ℕ → ℕ → ℕ → Op
piece_ended Tao n k t = SynchronizeCache (record { 0 = t })
piece_ended Sao n k t = if (ltb t n) (write (suc t) 0 (portion k 0)) (SynchronizeCache (record { 0 = t }))

-- from the block f of the piece t on
unfoldable pub before_block : Method → ℕ → ℕ → ℕ → ℕ → ℕ → Op
before_block m n l k t f = if (ltb f l) (write t f (portion l f)) (piece_ended m n k t)

-- the block that is next after an operation: that after a WRITE, else the first
abbrev pub block_after : Op → ℕ
block_after x = of_write 0 (λ t f k. f + k) x

-- after 55h: the track's WRITEs, or 5Dh
abbrev pub after_page : Method → Op → Op
after_page Tao x = x
after_page Sao x = SendCueSheet

-- after the track t is closed: the next track, or 5Bh function 2
unfoldable pub after_track : ℕ → ℕ → Op
after_track n t = if (ltb t n) (ReadTrackInformation (record { 0 = suc t })) CloseSession

-- after 35h: 5Bh function 1; by the new recipe the track is closed; in SAO it was the last
abbrev pub after_synchronize : Method → Recipe → ℕ → ℕ → Option Op
after_synchronize Tao Old n t = Some (CloseTrack (record { 0 = t }))
after_synchronize Tao New n t = Some (after_track n t)
after_synchronize Sao q n t = None

abbrev pub op_after : Method → Recipe → ℕ → ℕ → ℕ → Op → Option Op
op_after m q n l k GetConfiguration = Some ReadDiscInformation
op_after m q n l k ReadDiscInformation = Some (ReadTrackInformation (record { 0 = 1 }))
op_after m q n l k (ReadTrackInformation t) = Some (ModeSelect t)
op_after m q n l k (ModeSelect t) = Some (after_page m (before_block m n l k t.0 0))
op_after m q n l k SendCueSheet = Some (before_block m n l k 0 0)
op_after m q n l k (Write t f c) = Some (before_block m n l k t.0 (f.0 + c.0))
op_after m q n l k (SynchronizeCache t) = after_synchronize m q n t.0
op_after m q n l k (CloseTrack t) = Some (after_track n t.0)
op_after m q n l k CloseSession = None
op_after m q n l k Blank = Some ReadDiscInformation
op_after m q n l k TestUnitReady = None
op_after m q n l k RequestSense = None

-- the blocks of a piece of the job: of the pause, or of the track t
abbrev pub piece_of : Order → ℕ → ℕ
piece_of o zero = lead_frames
piece_of o (suc t) = (get_or o.tracks t no_track).length.0

-- in an order
abbrev pub after_in : Order → Op → Option Op
after_in o x = op_after o.method o.recipe o.count (piece_of o (track_in x)) (piece_of o (suc (track_in x))) x

abbrev pub before_in : Order → ℕ → ℕ → Op
before_in o t f = before_block o.method o.count (piece_of o t) (piece_of o (suc t)) t f
