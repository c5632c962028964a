-- What a side of a pair that is connected can do.
use Rattle.std.specs.Prelude.{◌≡◌, true}
use Rattle.rtc_parts.specs.DtlsState.{can_send}
use Rattle.rtc_parts.specs.Draws.{Draws}
use Rattle.rtc_plain_dtls.specs.PlainMeaning.{plain_dtls}
use Rattle.rtc_peer_transport.specs.Readings.{is_peer_connected}
use Rattle.rtc_run_history.specs.declared.side.Side.{Side}
use Rattle.rtc_run_history.specs.PairState.{rtc_at}
use Rattle.rtc_run_laws.specs.PlainPairs.{PlainPair, plain_over}

-- a side that is connected can send application data over its DTLS connection
abbrev pub ConnectedCanSend : {N : Type 0} → Draws N → PlainPair N → Type 0
ConnectedCanSend draws pair =
    (at : Side) → is_peer_connected (plain_over draws) (rtc_at at pair) ≡ true → can_send plain_dtls (rtc_at at pair).core.dtls ≡ true
