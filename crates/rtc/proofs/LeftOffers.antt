-- Offers of other stacks, by what is left of them.
use Rattle.std.proofs.Common.{◌≡◌, ◌∙◌, ℕ, List, [], Option, Some, None, Result, Ok, Err, refl, sym, ap, subst}
use Rattle.rtc_sdp_values.specs.declared.codec_config.CodecConfig.{CodecConfig}
use Rattle.rtc_sdp_values.specs.declared.sdp.Sdp.{Sdp}
use Rattle.rtc_sdp_reader.specs.Reading.{ReadsSdp}
use Rattle.rtc_lines.specs.Rejecting.{sdp_of_rejecting}
use Rattle.rtc_lines.specs.declared.sdp_answer.SdpAnswer.{SdpAnswer}
use Rattle.rtc_lines.specs.declared.sdp_offer.SdpOffer.{SdpOffer}
use Rattle.rtc_peer_core.specs.Acceptances.{AcceptsOffer}
use Rattle.rtc_peer_core.specs.Meanings.{Meanings}
use Rattle.rtc_peer_core.specs.declared.peer.Peer.{Peer}
use Rattle.rtc_peer_core.specs.declared.rtc_error.RtcError.{RtcError}
use Rattle.rtc.specs.OtherStacks.{left_by, left_of_offer, WritesFilled, AnswersLeft, AcceptsForeignText}
use Rattle.rtc.specs.OtherStacks.{NothingLeft, LeftRefused, LeftAnswered, ForeignRead}

module _ {I D S M E X T W N : Type 0} (m : Meanings I D S M E X T W N) (p : Peer I D S M N) (offer : Sdp) (codecs : CodecConfig)
    (left : Option SdpOffer) (own : codecs ≡ p.formats.codecs) (leaves : sdp_of_rejecting left ≡ left_by codecs.rows offer) where
  left_known : (is : Option SdpOffer) → left ≡ is → left_of_offer p offer ≡ sdp_of_rejecting is
  left_known is same =
      sym (ap (λ (c : CodecConfig). left_by c.rows offer) own) ∙ sym leaves ∙ ap (λ (o : Option SdpOffer). sdp_of_rejecting o) same

  pub nothing_left : left ≡ None → AnswersLeft m offer p (Ok None) p
  nothing_left none = NothingLeft (left_known None none) refl refl

  pub left_answered : (o : SdpOffer) (answer : SdpAnswer) (r : Result (Option (List ℕ)) RtcError) (q : Peer I D S M N) → left ≡ Some o
      → AcceptsOffer m (record p { staged = []; undo = [] }) o.0 (Ok answer.0) q → WritesFilled offer answer.0 r → AnswersLeft m offer p r q
  left_answered o answer r q some accepts writes = LeftAnswered o.0 answer.0 (left_known (Some o) some) accepts writes

  pub left_refused : (o : SdpOffer) (error : RtcError) (q : Peer I D S M N) → left ≡ Some o
      → AcceptsOffer m (record p { staged = []; undo = [] }) o.0 (Err error) q → AnswersLeft m offer p (Err error) q
  left_refused o error q some accepts = LeftRefused o.0 error (left_known (Some o) some) accepts refl

pub foreign_read : {I D S M E X T W N : Type 0} (m : Meanings I D S M E X T W N) (read : Result Sdp ℕ) (p q : Peer I D S M N) (offer : Sdp)
    (answered r : Result (Option (List ℕ)) RtcError) → ReadsSdp (Ok offer) read → AnswersLeft m offer p answered q → r ≡ answered
    → AcceptsForeignText m read p r q
foreign_read {I} {D} {S} {M} {E} {X} {T} {W} {N} m read p q offer answered r reads answers is =
    ForeignRead offer reads (subst (λ (result : Result (Option (List ℕ)) RtcError). AnswersLeft m offer p result q) (sym is) answers)
