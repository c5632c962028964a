-- What is left of the halves where memory runs out.
use Rattle.std.proofs.Common.{Result, Ok, Err}
use Rattle.std.specs.Prelude.{OnErr}
use Rattle.std.specs.declared.alloc.AllocError.{AllocError}
use Rattle.rtc_parts.specs.Draws.{Draws}
use Rattle.rtc_sctp_values.specs.declared.sctp_error.SctpError.{SctpError}
use Rattle.rtc_sctp_values.specs.InitHalves.{InitHalves, DrawsLocal, MayDrawLocal}

-- a refusal after a half was asked for leaves what that left
pub may_draw : {N X : Type 0} (draws : Draws N) (halves : InitHalves) (ids : N) (answer : Result (Unit {0}) AllocError) (halves' : InitHalves) (ids' : N)
    (r : Result X SctpError) → DrawsLocal draws halves ids answer halves' ids' → OnErr r (MayDrawLocal draws halves ids halves' ids')
may_draw draws halves ids answer halves' ids' (Ok x) h = tt
may_draw draws halves ids answer halves' ids' (Err e) h = (answer, h)
