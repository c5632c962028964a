-- How a peer accepts the texts of offers and answers.
use Rattle.std.specs.Prelude.{◌≡◌, ℕ, List, [], Result, Ok, Err}
use Rattle.rtc_sdp_values.specs.declared.sdp.Sdp.{Sdp}
use Rattle.rtc_sdp_values.specs.declared.sdp_error.SdpError.{SdpError}
use Rattle.rtc_sdp_reader.specs.Reading.{ReadsSdp}
use Rattle.rtc_sdp_writer.specs.SessionRows.{written_sdp}
use Rattle.rtc_change.specs.PendingOffer.{PendingOffer}
use Rattle.rtc_peer_core.specs.Acceptances.{AcceptsOffer, AcceptsAnswer}
use Rattle.rtc_peer_core.specs.Meanings.{Meanings}
use Rattle.rtc_peer_core.specs.RtcErrors.{error_of_sdp}
use Rattle.rtc_peer_core.specs.declared.peer.Peer.{Peer}
use Rattle.rtc_peer_core.specs.declared.rtc_error.RtcError.{RtcError}
use Rattle.rtc_peer_core.specs.declared.rtc_error.RtcError.TheVariants.{Alloc}

-- the text of an answer, or no memory for it
abbrev pub WritesAnswer : Sdp → Result (List ℕ) RtcError → Type 0
WritesAnswer answer (Ok text) = text ≡ written_sdp answer
WritesAnswer answer (Err error) = error ≡ Alloc

-- A text that cannot be read leaves the peer, and the error is that of its first refused line.
pub record LeavesUnread {A I D S M N : Type 0} (read : Result Sdp ℕ) (p : Peer I D S M N) (r : Result A RtcError) (q : Peer I D S M N)
    : Type 0 where
  pub cause : SdpError
  pub by_reading : ReadsSdp (Err cause) read
  pub error : r ≡ Err (error_of_sdp cause)
  pub peer : q ≡ p

module _ {I D S M E X T W N : Type 0} (m : Meanings I D S M E X T W N) where
  -- An offer is accepted as by a handle on which nothing is staged, and its answer is written; or it is refused.
  pub data AnswersOffer (offer : Sdp) (p : Peer I D S M N) (r : Result (List ℕ) RtcError) (q : Peer I D S M N) : Type 0 where
    OfferRefused : (error : RtcError) → AcceptsOffer m (record p { staged = []; undo = [] }) offer (Err error) q → r ≡ Err error
        → AnswersOffer offer p r q
    OfferAnswered : (answer : Sdp) → AcceptsOffer m (record p { staged = []; undo = [] }) offer (Ok answer) q → WritesAnswer answer r
        → AnswersOffer offer p r q

  -- The offer that was read of a text is answered.
  pub data AcceptsOfferText (read : Result Sdp ℕ) (p : Peer I D S M N) (r : Result (List ℕ) RtcError) (q : Peer I D S M N) : Type 0 where
    OfferUnread : LeavesUnread read p r q → AcceptsOfferText read p r q
    OfferRead : (offer : Sdp) → ReadsSdp (Ok offer) read → AnswersOffer offer p r q → AcceptsOfferText read p r q

  -- The answer that was read of a text is accepted or refused, with the token of its offer.
  pub data AcceptsAnswerText (token : PendingOffer) (read : Result Sdp ℕ) (p : Peer I D S M N) (r : Result (Unit {0}) RtcError)
      (q : Peer I D S M N) : Type 0 where
    AnswerUnread : LeavesUnread read p r q → AcceptsAnswerText token read p r q
    AnswerRead : (answer : Sdp) → ReadsSdp (Ok answer) read → AcceptsAnswer m (record p { staged = []; undo = [] }) token answer r q
        → AcceptsAnswerText token read p r q
