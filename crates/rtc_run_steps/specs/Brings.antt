-- What signalling delivers of an offer or an answer; any call that allocates may return `Alloc`.
use Rattle.std.specs.Prelude.{◌≡◌}
use Rattle.rtc_run_history.specs.Signalled.{Signalled, NotMade, Unreadable, Readable}
use Rattle.rtc_run_steps.specs.declared.brought.Brought.{Brought}
use Rattle.rtc_run_steps.specs.declared.brought.Brought.TheVariants as brought

abbrev pub Brings : Brought → Signalled → Type 0
Brings brought.NotMade given = given ≡ NotMade
Brings (brought.Unreadable line) given = given ≡ Unreadable line
Brings (brought.Readable sdp) given = given ≡ Readable sdp
Brings brought.Alloc given = Unit {0}
