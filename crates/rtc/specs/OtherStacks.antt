-- How a peer answers the offer of a stack that refuses m-lines without a format.
use Rattle.std.specs.Prelude.{◌≡◌, ℕ, List, [], Option, Some, None, Result, Ok, Err}
use Rattle.rtc_sdp_values.specs.declared.payload_row.PayloadRow.{PayloadRow}
use Rattle.rtc_sdp_values.specs.declared.sdp.Sdp.{Sdp}
use Rattle.rtc_sdp_reader.specs.Reading.{ReadsSdp}
use Rattle.rtc_sdp_writer.specs.Placeholders.{filled_sdp}
use Rattle.rtc_lines.specs.OfferedFormats.{answer_with_offered}
use Rattle.rtc_lines.specs.Rejecting.{mids_without_codec, offer_rejecting, sdp_of_rejecting}
use Rattle.rtc_lines.specs.declared.sdp_offer.SdpOffer.{SdpOffer}
use Rattle.rtc_peer_core.specs.Acceptances.{AcceptsOffer}
use Rattle.rtc_peer_core.specs.Meanings.{Meanings}
use Rattle.rtc_peer_core.specs.declared.peer.Peer.{Peer}
use Rattle.rtc_peer_core.specs.declared.rtc_error.RtcError.{RtcError}
use Rattle.rtc_peer_core.specs.declared.rtc_error.RtcError.TheVariants.{Alloc}
use Rattle.rtc.specs.Texts.{LeavesUnread}

-- the offer with each live line rejected that has no codec of a peer (RFC 3264, section 6); None if no live line is left
abbrev pub left_by : List PayloadRow → Sdp → Option Sdp
left_by rows offer = offer_rejecting (mids_without_codec rows offer.groups offer.lines) offer

abbrev pub left_of_offer : {I D S M N : Type 0} → Peer I D S M N → Sdp → Option Sdp
left_of_offer p offer = left_by p.formats.codecs.rows offer

-- what is left of it, or no memory to reject lines
abbrev pub LeavesOf : List PayloadRow → Sdp → Result (Option SdpOffer) RtcError → Type 0
LeavesOf rows offer (Ok left) = sdp_of_rejecting left ≡ left_by rows offer
LeavesOf rows offer (Err error) = error ≡ Alloc

-- The text of the answer to an offer, or no memory for it. Each m-line has a format (RFC 8866, section 5.14): a rejected one has those
-- that were offered.
abbrev pub WritesFilled : (offer answer : Sdp) → Result (Option (List ℕ)) RtcError → Type 0
WritesFilled offer answer (Ok None) = ⊥
WritesFilled offer answer (Ok (Some text)) = text ≡ filled_sdp (answer_with_offered answer offer)
WritesFilled offer answer (Err error) = error ≡ Alloc

module _ {I D S M E X T W N : Type 0} (m : Meanings I D S M E X T W N) where
  -- What is left of the offer is accepted as by a handle on which nothing is staged, and answered; or it is refused. The peer is
  -- unchanged if nothing is left, or if memory lacks before.
  pub data AnswersLeft (offer : Sdp) (p : Peer I D S M N) (r : Result (Option (List ℕ)) RtcError) (q : Peer I D S M N) : Type 0 where
    NothingLeft : left_of_offer p offer ≡ None → r ≡ Ok None → q ≡ p → AnswersLeft offer p r q
    LacksMemory : r ≡ Err Alloc → q ≡ p → AnswersLeft offer p r q
    LeftRefused : (left : Sdp) (error : RtcError) → left_of_offer p offer ≡ Some left
        → AcceptsOffer m (record p { staged = []; undo = [] }) left (Err error) q → r ≡ Err error → AnswersLeft offer p r q
    LeftAnswered : (left answer : Sdp) → left_of_offer p offer ≡ Some left
        → AcceptsOffer m (record p { staged = []; undo = [] }) left (Ok answer) q → WritesFilled offer answer r → AnswersLeft offer p r q

  -- The offer that was read of a text is answered so.
  pub data AcceptsForeignText (read : Result Sdp ℕ) (p : Peer I D S M N) (r : Result (Option (List ℕ)) RtcError) (q : Peer I D S M N)
      : Type 0 where
    ForeignUnread : LeavesUnread read p r q → AcceptsForeignText read p r q
    ForeignRead : (offer : Sdp) → ReadsSdp (Ok offer) read → AnswersLeft offer p r q → AcceptsForeignText read p r q
