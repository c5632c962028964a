-- What the calls of a peer that C keeps do with offers and answers.
use Rattle.std.specs.Prelude.{◌≡◌, ℕ, List, [], Bool, true, false, Some, None, Result, Ok, Err}
use Rattle.rtc_sdp_values.specs.declared.sdp.Sdp.{Sdp}
use Rattle.rtc_sdp_values.specs.declared.sdp_error.SdpError.{SdpError}
use Rattle.rtc_sdp_reader.specs.Reading.{ReadsSdp}
use Rattle.rtc_sdp_writer.specs.SessionRows.{written_sdp}
use Rattle.rtc_lines.specs.declared.sdp_offer.SdpOffer.{SdpOffer}
use Rattle.rtc_change.specs.PendingOffer.{PendingOffer}
use Rattle.rtc_peer_core.specs.Acceptances.{AcceptsAnswer}
use Rattle.rtc_peer_core.specs.RollingBack.{RollsBack}
use Rattle.rtc_peer_core.specs.RtcErrors.{error_of_sdp}
use Rattle.rtc_peer_core.specs.declared.rtc_error.RtcError.{RtcError}
use Rattle.rtc.specs.PlainPeers.{memory_parts}
use Rattle.rtc.specs.Texts.{AcceptsOfferText}
use Rattle.rtc_c_handle.specs.HeldPeer.{HeldPeer}
use Rattle.rtc_c_handle.specs.Statuses.{status_of_error}
use Rattle.rtc_c_handle.specs.WantedChanges.{MakesOffer}
use Rattle.rtc_c_handle.specs.declared.held.Held.{Held}
use Rattle.rtc_c_handle.specs.declared.made.Made.TheVariants.{Offer, Nothing, Failed}
use Rattle.rtc_c_handle.specs.declared.status.Status.{Status}
use Rattle.rtc_c_handle.specs.declared.status.Status.TheVariants.{Done, NoMemory, NothingToOffer}

-- The text of an offer is accepted, and the text to be sent is that of the answer; or it is refused, and the text to be sent is unchanged.
abbrev pub TakesOffer : Result Sdp ℕ → Held → Result (Unit {0}) RtcError → Held → Type 0
TakesOffer read h (Ok done) g = AcceptsOfferText memory_parts read h.rtc.core (Ok g.text) g.rtc.core
TakesOffer read h (Err error) g = AcceptsOfferText memory_parts read h.rtc.core (Err error) g.rtc.core × (g.text ≡ h.text)

-- what a call that needs the token returns where the peer was given it
abbrev pub had_token : Result (Unit {0}) RtcError → Result Bool RtcError
had_token (Ok done) = Ok true
had_token (Err error) = Err error

-- A peer at which nothing is staged is given the token that is kept, which is consumed; or there is none, and nothing changes.
pub data SpendsToken (calls : HeldPeer → PendingOffer → Result (Unit {0}) RtcError → HeldPeer → Type 0)
    (h : Held) (r : Result Bool RtcError) (g : Held) : Type 0 where
  HasNoToken : h.token ≡ None → r ≡ Ok false → g ≡ h → SpendsToken calls h r g
  HadToken : (token : PendingOffer) (returned : Result (Unit {0}) RtcError) → h.token ≡ Some token
      → calls (record h.rtc.core { staged = []; undo = [] }) token returned g.rtc.core → r ≡ had_token returned
      → g.rtc.transport ≡ h.rtc.transport → g ≡ record h { rtc = g.rtc; token = None } → SpendsToken calls h r g

-- The text of an answer cannot be read, and nothing changes; or the answer that was read of it is given with the token.
pub data TakesAnswer (read : Result Sdp ℕ) (h : Held) (r : Result Bool RtcError) (g : Held) : Type 0 where
  AnswerUnread : (cause : SdpError) → ReadsSdp (Err cause) read → r ≡ Err (error_of_sdp cause) → g ≡ h → TakesAnswer read h r g
  AnswerRead : (answer : Sdp) → ReadsSdp (Ok answer) read
      → SpendsToken (λ p token returned q. AcceptsAnswer memory_parts p token answer returned q) h r g → TakesAnswer read h r g

-- An offer of this side is rolled back.
abbrev pub RollsOfferBack : Held → Result Bool RtcError → Held → Type 0
RollsOfferBack h r g = SpendsToken (λ p token returned q. RollsBack p token returned q) h r g

-- An offer is written as the text that is to be sent, or there is no memory for it, and the text is unchanged.
abbrev pub WritesOffer : Sdp → List ℕ → Status → List ℕ → Type 0
WritesOffer offer text Done after = after ≡ written_sdp offer
WritesOffer offer text NoMemory after = after ≡ text
WritesOffer offer text status after = ⊥

-- The wanted changes are offered, and the token is kept; or nothing of them is to be sent; or they are kept, and no offer is made.
pub data Offers (h : Held) (status : Status) (g : Held) : Type 0 where
  IsOffered : (offer : SdpOffer) (token : PendingOffer) → MakesOffer h.wanted h.rtc.core (Offer offer token) g.rtc.core
      → WritesOffer offer.0 h.text status g.text
      → g.rtc.transport ≡ h.rtc.transport → g ≡ record h { rtc = g.rtc; token = Some token; text = g.text; wanted = [] } → Offers h status g
  IsUnsaid : MakesOffer h.wanted h.rtc.core Nothing g.rtc.core → status ≡ NothingToOffer
      → g.rtc.transport ≡ h.rtc.transport → g ≡ record h { rtc = g.rtc; wanted = [] } → Offers h status g
  IsNotOffered : (error : RtcError) → MakesOffer h.wanted h.rtc.core (Failed error) g.rtc.core → status ≡ status_of_error error
      → g.rtc.transport ≡ h.rtc.transport → g ≡ record h { rtc = g.rtc } → Offers h status g
