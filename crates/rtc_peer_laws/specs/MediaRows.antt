-- The rows of media lines that an acceptance leaves in the media part.
use Rattle.std.specs.Prelude.{◌≡◌, false, List, length, take, option_map, Some}
use Rattle.rtc_sdp_values.specs.LineRow.{row_mid}
use Rattle.rtc_sdp_values.specs.declared.line_row.LineRow.{LineRow}
use Rattle.rtc_sdp_values.specs.declared.sdp.Sdp.{Sdp}
use Rattle.rtc_parts.specs.Among.{Member}
use Rattle.rtc_parts.specs.declared.media_update.MediaUpdate.{MediaUpdate}
use Rattle.rtc_parts.specs.MediaMeaning.{MediaMeaning}
use Rattle.rtc_peer_rows.specs.Table.{IsTable, is_app}
use Rattle.rtc_change.specs.PendingOffer.{PendingOffer}
use Rattle.rtc_peer_core.specs.declared.peer.Peer.{Peer}
use Rattle.rtc_peer_core.specs.Acceptances.{OfferAccepted, AnswerAccepted}
use Rattle.rtc_peer_core.specs.Meanings.{Meanings}

abbrev pub update_row : MediaUpdate → LineRow
update_row update = update.row

-- a media part has these rows at the lines of their mids, but for that of the data channels
abbrev pub HoldsRows : {M E X T W : Type 0} → MediaMeaning M E X T W → M → List LineRow → Type 0
HoldsRows media part rows =
    (row : LineRow) → Member row rows → is_app row ≡ false → option_map update_row (media.line part (row_mid row)) ≡ Some row

module _ {I D S M E X T W N : Type 0} (m : Meanings I D S M E X T W N) where
  -- an offer that is accepted leaves the rows that its lines name
  abbrev pub OffersLeaveRows : Type 0
  OffersLeaveRows = (p q : Peer I D S M N) (offer answer : Sdp) → IsTable q.lines → OfferAccepted m p offer answer q
      → HoldsRows m.media q.media (take (length offer.lines) q.lines)

  -- so does an answer
  abbrev pub AnswersLeaveRows : Type 0
  AnswersLeaveRows = (p q : Peer I D S M N) (token : PendingOffer) (answer : Sdp) → IsTable q.lines → AnswerAccepted m p token answer q
      → HoldsRows m.media q.media (take (length answer.lines) q.lines)
