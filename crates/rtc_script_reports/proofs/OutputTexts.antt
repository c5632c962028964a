-- The lines of outputs and of what ended polls: each is one line, and tells what it shows.
use Rattle.std.specs.Prelude.{codes}
use Rattle.std.specs.Fmt.{decimal}
use Rattle.std.specs.List.{AllByRecursion, AllZip}
use Rattle.std.proofs.Common.{◌≡◌, ◌==◌, ◌+◌, ◌-◌, ◌*◌, ◌++◌, ◌∷◌, ℕ, false, cond, List, [], map, refl, sym, ◌∙◌, ap, arith}
use Rattle.std.proofs.lemmas.Fmt.{decimal_injective}
use Rattle.std.proofs.lemmas.List.{append_cancel_left}
use Rattle.rtc_parts.specs.declared.reason.Reason.{Reason}
use Rattle.rtc_parts.specs.declared.reason.Reason.TheVariants as reasons
use Rattle.rtc_plain_media.specs.declared.plain_media_event.PlainMediaEvent.{PlainMediaEvent}
use Rattle.rtc_peer_core.specs.RtcErrorText.{rtc_error_text}
use Rattle.rtc_peer_core.specs.declared.rtc_error.RtcError.{RtcError}
use Rattle.rtc_peer_core.specs.declared.rtc_error.RtcError.TheVariants.{RemoteSdp, Sdp, Net, Dtls, Sctp, Media, ChangesOutOfOrder, BadChannel, Alloc as PeerAlloc, Glare}
use Rattle.rtc_run_history.specs.declared.poll_end.PollEnd.{PollEnd}
use Rattle.rtc_run_history.specs.declared.poll_end.PollEnd.TheVariants.{Ended, Refused as EndRefused, NoRoom}
use Rattle.rtc_run_history.specs.declared.shown.Shown.{Shown}
use Rattle.rtc_run_history.specs.declared.shown.Shown.TheVariants.{Timeout, Packet, Event}
use Rattle.rtc_script_reports.specs.Alike.{AreAlikeEnds, AreAlikeErrors, AreAlikeShown, error_number}
use Rattle.rtc_script_reports.specs.Events.{event_text}
use Rattle.rtc_script_reports.specs.Fits.{FitsShown, has_byte}
use Rattle.rtc_script_reports.specs.Outcomes.{no_memory, refusal_text}
use Rattle.rtc_script_reports.specs.Outputs.{end_line, error_line, moment_text, output_line, reason_text}
use Rattle.rtc_script_reports.proofs.Cuts.{cut_end, cut_front, cut_space, none_append, none_put, text_of}
use Rattle.rtc_script_reports.proofs.ErrorTexts.{EndsInLine, IsInLine}
use Rattle.rtc_script_reports.proofs.EventTexts.{event_whole, same_event}
use Rattle.rtc_script_reports.proofs.LineTexts.{IsOneLine, same_lines}
use Rattle.rtc_script_reports.proofs.WordTexts.{decimal_gap, letter, moment_gap, same_moment}

-- ---- reasons

reason_mark : Reason → ℕ
reason_mark reasons.NotHappening = 78111116
reason_mark reasons.DTLS = 68084076
reason_mark reasons.Ice = 73099101
reason_mark reasons.Sctp = 83099116
reason_mark reasons.Channel = 67104097
reason_mark reasons.Stats = 83116097
reason_mark reasons.Feedback = 70101101
reason_mark reasons.Nack = 78097099
reason_mark reasons.Twcc = 84119099
reason_mark reasons.PauseCheck = 80097117
reason_mark reasons.SendStream = 83101110
reason_mark reasons.Packetize = 80097099
reason_mark reasons.ReceiveReorder = 82101099

reason_mark_told : List ℕ → ℕ
reason_mark_told text = letter 0 text * 1000000 + (letter 1 text * 1000 + letter 2 text)

reason_is : (reason : Reason) → reason_mark_told (reason_text reason) ≡ reason_mark reason
unfolding reason_mark reason_mark_told
reason_is reasons.NotHappening = refl
reason_is reasons.DTLS = refl
reason_is reasons.Ice = refl
reason_is reasons.Sctp = refl
reason_is reasons.Channel = refl
reason_is reasons.Stats = refl
reason_is reasons.Feedback = refl
reason_is reasons.Nack = refl
reason_is reasons.Twcc = refl
reason_is reasons.PauseCheck = refl
reason_is reasons.SendStream = refl
reason_is reasons.Packetize = refl
reason_is reasons.ReceiveReorder = refl

marked_reason : (reason other : Reason) → reason_mark reason ≡ reason_mark other → reason ≡ other
unfolding reason_mark
marked_reason reasons.NotHappening reasons.NotHappening e = refl
marked_reason reasons.DTLS reasons.DTLS e = refl
marked_reason reasons.Ice reasons.Ice e = refl
marked_reason reasons.Sctp reasons.Sctp e = refl
marked_reason reasons.Channel reasons.Channel e = refl
marked_reason reasons.Stats reasons.Stats e = refl
marked_reason reasons.Feedback reasons.Feedback e = refl
marked_reason reasons.Nack reasons.Nack e = refl
marked_reason reasons.Twcc reasons.Twcc e = refl
marked_reason reasons.PauseCheck reasons.PauseCheck e = refl
marked_reason reasons.SendStream reasons.SendStream e = refl
marked_reason reasons.Packetize reasons.Packetize e = refl
marked_reason reasons.ReceiveReorder reasons.ReceiveReorder e = refl
marked_reason reason other e = absurd (let f : reason_mark reason ≡ reason_mark other = e in omega (arith, f))

same_reason : (reason other : Reason) → reason_text reason ≡ reason_text other → reason ≡ other
same_reason reason other e = marked_reason reason other (sym (reason_is reason) ∙ ap reason_mark_told e ∙ reason_is other)

reason_whole : (reason : Reason) → has_byte 10 (reason_text reason) ≡ false
reason_whole reasons.NotHappening = refl
reason_whole reasons.DTLS = refl
reason_whole reasons.Ice = refl
reason_whole reasons.Sctp = refl
reason_whole reasons.Channel = refl
reason_whole reasons.Stats = refl
reason_whole reasons.Feedback = refl
reason_whole reasons.Nack = refl
reason_whole reasons.Twcc = refl
reason_whole reasons.PauseCheck = refl
reason_whole reasons.SendStream = refl
reason_whole reasons.Packetize = refl
reason_whole reasons.ReceiveReorder = refl

-- ---- outputs

shown_mark : Shown PlainMediaEvent → ℕ
shown_mark (Timeout moment reason) = 116
shown_mark (Packet number len) = 112
shown_mark (Event event) = 101

shown_is : (shown : Shown PlainMediaEvent) → letter 4 (output_line shown) ≡ shown_mark shown
unfolding shown_mark
shown_is (Timeout moment reason) = refl
shown_is (Packet number len) = refl
shown_is (Event event) = refl

marked_shown : (shown other : Shown PlainMediaEvent) → FitsShown shown → FitsShown other → output_line shown ≡ output_line other → shown_mark shown ≡ shown_mark other → AreAlikeShown shown other
unfolding shown_mark
marked_shown (Timeout moment reason) (Timeout moment' reason') fit fit' e m =
    let text = cut_front (codes "out timeout ") (moment_text moment ∷ codes " " ∷ reason_text reason ∷ codes "\n" ∷ []) (moment_text moment' ∷ codes " " ∷ reason_text reason' ∷ codes "\n" ∷ []) e in
    let first = cut_space (moment_text moment) (moment_text moment') (text_of (reason_text reason ∷ codes "\n" ∷ [])) (text_of (reason_text reason' ∷ codes "\n" ∷ [])) (moment_gap 0 moment) (moment_gap 0 moment') text in
    (same_moment moment moment' fit fit' first.0, same_reason reason reason' (cut_end 10 (reason_text reason) (reason_text reason') (reason_whole reason) (reason_whole reason') first.1))
marked_shown (Packet number len) (Packet number' len') fit fit' e m =
    let text = cut_front (codes "out packet ") (decimal number ∷ codes " " ∷ decimal len ∷ codes "\n" ∷ []) (decimal number' ∷ codes " " ∷ decimal len' ∷ codes "\n" ∷ []) e in
    let first = cut_space (decimal number) (decimal number') (text_of (decimal len ∷ codes "\n" ∷ [])) (text_of (decimal len' ∷ codes "\n" ∷ [])) (decimal_gap 0 number) (decimal_gap 0 number') text in
    (decimal_injective number number' fit.0 fit'.0 first.0, decimal_injective len len' fit.1 fit'.1 (cut_end 10 (decimal len) (decimal len') (decimal_gap 1 len) (decimal_gap 1 len') first.1))
marked_shown (Event event) (Event event') fit fit' e m =
    let text = cut_front (codes "out event ") (event_text event ∷ codes "\n" ∷ []) (event_text event' ∷ codes "\n" ∷ []) e in
    same_event event event' fit fit' (cut_end 10 (event_text event) (event_text event') (event_whole event fit) (event_whole event' fit') text)
marked_shown shown other fit fit' e m = absurd (let f : shown_mark shown ≡ shown_mark other = m in omega (arith, f))

same_output : (shown other : Shown PlainMediaEvent) → FitsShown shown → FitsShown other → output_line shown ≡ output_line other → AreAlikeShown shown other
same_output shown other fit fit' e = marked_shown shown other fit fit' e (sym (shown_is shown) ∙ ap (letter 4) e ∙ shown_is other)

-- outputs of equal lines agree
pub same_outputs : (outputs others : List (Shown PlainMediaEvent)) → AllByRecursion FitsShown outputs → AllByRecursion FitsShown others
    → map output_line outputs ≡ map output_line others → AllZip AreAlikeShown outputs others
same_outputs [] [] fit fit' e = tt
same_outputs [] (other ∷ others) fit fit' e = absurd (let f : ◌≡◌ {A = List (List ℕ)} [] (output_line other ∷ map output_line others) = e in cc)
same_outputs (shown ∷ outputs) [] fit fit' e = absurd (let f : ◌≡◌ {A = List (List ℕ)} (output_line shown ∷ map output_line outputs) [] = e in cc)
same_outputs (shown ∷ outputs) (other ∷ others) fit fit' e =
    let both = same_lines (output_line shown) (output_line other) (map output_line outputs) (map output_line others) e in
    (same_output shown other fit.0 fit'.0 both.0, same_outputs outputs others fit.1 fit'.1 both.1)

output_whole : (shown : Shown PlainMediaEvent) → FitsShown shown → IsOneLine (output_line shown)
output_whole (Timeout moment reason) fit = record {
  content = codes "out timeout " ++ moment_text moment ++ codes " " ++ reason_text reason;
  is = refl;
  whole = none_put 10 (codes "out timeout ") (moment_text moment ∷ codes " " ∷ reason_text reason ∷ []) refl (moment_gap 1 moment, (refl, (reason_whole reason, tt)));
}
output_whole (Packet number len) fit = record {
  content = codes "out packet " ++ decimal number ++ codes " " ++ decimal len;
  is = refl;
  whole = none_put 10 (codes "out packet ") (decimal number ∷ codes " " ∷ decimal len ∷ []) refl (decimal_gap 1 number, (refl, (decimal_gap 1 len, tt)));
}
output_whole (Event event) fit = record {
  content = codes "out event " ++ event_text event;
  is = refl;
  whole = none_append 10 (codes "out event ") (event_text event) refl (event_whole event fit);
}

pub outputs_whole : (outputs : List (Shown PlainMediaEvent)) → AllByRecursion FitsShown outputs → AllByRecursion IsOneLine (map output_line outputs)
outputs_whole [] fit = tt
outputs_whole (shown ∷ outputs) fit = (output_whole shown fit.0, outputs_whole outputs fit.1)

-- ---- errors

refusal_mark : List ℕ → ℕ
refusal_mark text = cond (letter 9 text == 48) 10 (cond (letter 0 text == 110) 9 (letter 8 text - 48))

refusal_is : (error : RtcError) → refusal_mark (refusal_text error) ≡ error_number error
unfolding refusal_mark
refusal_is (RemoteSdp why) = refl
refusal_is (Sdp error) = refl
refusal_is (Net error) = refl
refusal_is (Dtls error) = refl
refusal_is (Sctp error) = refl
refusal_is (Media error) = refl
refusal_is ChangesOutOfOrder = refl
refusal_is BadChannel = refl
refusal_is PeerAlloc = refl
refusal_is Glare = refl

marked_refusal : (error other : RtcError) → refusal_text error ≡ refusal_text other → error_number error ≡ error_number other → AreAlikeErrors error other
marked_refusal (RemoteSdp why) (RemoteSdp why') e m = (refl, append_cancel_left (codes "refused 1 ") (rtc_error_text (RemoteSdp why)) (rtc_error_text (RemoteSdp why')) e)
marked_refusal (Sdp error) (Sdp error') e m = (refl, append_cancel_left (codes "refused 2 ") (rtc_error_text (Sdp error)) (rtc_error_text (Sdp error')) e)
marked_refusal (Net error) (Net error') e m = (refl, append_cancel_left (codes "refused 3 ") (rtc_error_text (Net error)) (rtc_error_text (Net error')) e)
marked_refusal (Dtls error) (Dtls error') e m = (refl, append_cancel_left (codes "refused 4 ") (rtc_error_text (Dtls error)) (rtc_error_text (Dtls error')) e)
marked_refusal (Sctp error) (Sctp error') e m = (refl, append_cancel_left (codes "refused 5 ") (rtc_error_text (Sctp error)) (rtc_error_text (Sctp error')) e)
marked_refusal (Media error) (Media error') e m = (refl, append_cancel_left (codes "refused 6 ") (rtc_error_text (Media error)) (rtc_error_text (Media error')) e)
marked_refusal ChangesOutOfOrder ChangesOutOfOrder e m = (refl, refl)
marked_refusal BadChannel BadChannel e m = (refl, refl)
marked_refusal PeerAlloc PeerAlloc e m = (refl, refl)
marked_refusal Glare Glare e m = (refl, refl)
marked_refusal error other e m = absurd (let f : error_number error ≡ error_number other = m in omega (arith, f))

-- refusals of equal words agree
pub same_refusal : (error other : RtcError) → refusal_text error ≡ refusal_text other → AreAlikeErrors error other
same_refusal error other e = marked_refusal error other e (sym (refusal_is error) ∙ ap refusal_mark e ∙ refusal_is other)

pub refusal_whole : (error : RtcError) → IsInLine error → has_byte 10 (refusal_text error) ≡ false
refusal_whole (RemoteSdp why) is = none_append 10 (codes "refused 1 ") (rtc_error_text (RemoteSdp why)) refl is
refusal_whole (Sdp error) is = none_append 10 (codes "refused 2 ") (rtc_error_text (Sdp error)) refl is
refusal_whole (Net error) is = none_append 10 (codes "refused 3 ") (rtc_error_text (Net error)) refl is
refusal_whole (Dtls error) is = none_append 10 (codes "refused 4 ") (rtc_error_text (Dtls error)) refl is
refusal_whole (Sctp error) is = none_append 10 (codes "refused 5 ") (rtc_error_text (Sctp error)) refl is
refusal_whole (Media error) is = none_append 10 (codes "refused 6 ") (rtc_error_text (Media error)) refl is
refusal_whole ChangesOutOfOrder is = none_append 10 (codes "refused 7 ") (rtc_error_text ChangesOutOfOrder) refl is
refusal_whole BadChannel is = none_append 10 (codes "refused 8 ") (rtc_error_text BadChannel) refl is
refusal_whole PeerAlloc is = refl
refusal_whole Glare is = none_append 10 (codes "refused 10 ") (rtc_error_text Glare) refl is

-- ---- ends of polls

error_mark : List ℕ → ℕ
error_mark text = cond (letter 7 text == 48) 10 (cond (letter 0 text == 110) 9 (letter 6 text - 48))

error_is : (error : RtcError) → error_mark (error_line error) ≡ error_number error
unfolding error_mark
error_is (RemoteSdp why) = refl
error_is (Sdp error) = refl
error_is (Net error) = refl
error_is (Dtls error) = refl
error_is (Sctp error) = refl
error_is (Media error) = refl
error_is ChangesOutOfOrder = refl
error_is BadChannel = refl
error_is PeerAlloc = refl
error_is Glare = refl

-- what stands behind a front, up to the end of the line
in_line : (front l m : List ℕ) → has_byte 10 l ≡ false → has_byte 10 m ≡ false → front ++ l ++ codes "\n" ≡ front ++ m ++ codes "\n" → l ≡ m
in_line front l m a b e = cut_end 10 l m a b (cut_front front (l ∷ codes "\n" ∷ []) (m ∷ codes "\n" ∷ []) e)

marked_error : (error other : RtcError) → IsInLine error → IsInLine other → error_line error ≡ error_line other → error_number error ≡ error_number other → AreAlikeErrors error other
marked_error (RemoteSdp why) (RemoteSdp why') a b e m = (refl, in_line (codes "error 1 ") (rtc_error_text (RemoteSdp why)) (rtc_error_text (RemoteSdp why')) a b e)
marked_error (Sdp error) (Sdp error') a b e m = (refl, in_line (codes "error 2 ") (rtc_error_text (Sdp error)) (rtc_error_text (Sdp error')) a b e)
marked_error (Net error) (Net error') a b e m = (refl, in_line (codes "error 3 ") (rtc_error_text (Net error)) (rtc_error_text (Net error')) a b e)
marked_error (Dtls error) (Dtls error') a b e m = (refl, in_line (codes "error 4 ") (rtc_error_text (Dtls error)) (rtc_error_text (Dtls error')) a b e)
marked_error (Sctp error) (Sctp error') a b e m = (refl, in_line (codes "error 5 ") (rtc_error_text (Sctp error)) (rtc_error_text (Sctp error')) a b e)
marked_error (Media error) (Media error') a b e m = (refl, in_line (codes "error 6 ") (rtc_error_text (Media error)) (rtc_error_text (Media error')) a b e)
marked_error ChangesOutOfOrder ChangesOutOfOrder a b e m = (refl, refl)
marked_error BadChannel BadChannel a b e m = (refl, refl)
marked_error PeerAlloc PeerAlloc a b e m = (refl, refl)
marked_error Glare Glare a b e m = (refl, refl)
marked_error error other a b e m = absurd (let f : error_number error ≡ error_number other = m in omega (arith, f))

-- the error of number 9 is the want of memory
lacking : (error : RtcError) → error_number error ≡ 9 → error ≡ PeerAlloc
lacking PeerAlloc e = refl
lacking error e = absurd (let f : error_number error ≡ 9 = e in omega (arith, f))

-- the lines of what ended polls
abbrev pub end_lines : PollEnd → List (List ℕ)
end_lines Ended = []
end_lines (EndRefused error) = error_line error ∷ []
end_lines NoRoom = end_line NoRoom ∷ []

one_line : (l m : List ℕ) → ◌≡◌ {A = List (List ℕ)} (l ∷ []) (m ∷ []) → l ≡ m
one_line l m e = cc

-- ends of equal lines agree
pub same_end : (end other : PollEnd) → EndsInLine end → EndsInLine other → end_lines end ≡ end_lines other → AreAlikeEnds end other
same_end Ended Ended a b e = tt
same_end NoRoom NoRoom a b e = tt
same_end (EndRefused error) (EndRefused error') a b e =
    let same = one_line (error_line error) (error_line error') e in
    marked_error error error' a b same (sym (error_is error) ∙ ap error_mark same ∙ error_is error')
same_end NoRoom (EndRefused error) a b e =
    lacking error (sym (error_is error) ∙ ap error_mark (sym (one_line (error_line PeerAlloc) (error_line error) e)) ∙ error_is PeerAlloc)
same_end (EndRefused error) NoRoom a b e =
    lacking error (sym (error_is error) ∙ ap error_mark (one_line (error_line error) (error_line PeerAlloc) e) ∙ error_is PeerAlloc)
same_end Ended (EndRefused error) a b e = absurd (let f : ◌≡◌ {A = List (List ℕ)} [] (error_line error ∷ []) = e in cc)
same_end (EndRefused error) Ended a b e = absurd (let f : ◌≡◌ {A = List (List ℕ)} (error_line error ∷ []) [] = e in cc)
same_end Ended NoRoom a b e = absurd (let f : ◌≡◌ {A = List (List ℕ)} [] (end_line NoRoom ∷ []) = e in cc)
same_end NoRoom Ended a b e = absurd (let f : ◌≡◌ {A = List (List ℕ)} (end_line NoRoom ∷ []) [] = e in cc)

lack_whole : IsOneLine (error_line PeerAlloc)
lack_whole = record { content = no_memory; is = refl; whole = refl }

error_whole : (error : RtcError) → IsInLine error → IsOneLine (error_line error)
error_whole (RemoteSdp why) is = record { content = codes "error 1 " ++ rtc_error_text (RemoteSdp why); is = refl; whole = none_append 10 (codes "error 1 ") (rtc_error_text (RemoteSdp why)) refl is }
error_whole (Sdp error) is = record { content = codes "error 2 " ++ rtc_error_text (Sdp error); is = refl; whole = none_append 10 (codes "error 2 ") (rtc_error_text (Sdp error)) refl is }
error_whole (Net error) is = record { content = codes "error 3 " ++ rtc_error_text (Net error); is = refl; whole = none_append 10 (codes "error 3 ") (rtc_error_text (Net error)) refl is }
error_whole (Dtls error) is = record { content = codes "error 4 " ++ rtc_error_text (Dtls error); is = refl; whole = none_append 10 (codes "error 4 ") (rtc_error_text (Dtls error)) refl is }
error_whole (Sctp error) is = record { content = codes "error 5 " ++ rtc_error_text (Sctp error); is = refl; whole = none_append 10 (codes "error 5 ") (rtc_error_text (Sctp error)) refl is }
error_whole (Media error) is = record { content = codes "error 6 " ++ rtc_error_text (Media error); is = refl; whole = none_append 10 (codes "error 6 ") (rtc_error_text (Media error)) refl is }
error_whole ChangesOutOfOrder is = record { content = codes "error 7 " ++ rtc_error_text ChangesOutOfOrder; is = refl; whole = none_append 10 (codes "error 7 ") (rtc_error_text ChangesOutOfOrder) refl is }
error_whole BadChannel is = record { content = codes "error 8 " ++ rtc_error_text BadChannel; is = refl; whole = none_append 10 (codes "error 8 ") (rtc_error_text BadChannel) refl is }
error_whole PeerAlloc is = lack_whole
error_whole Glare is = record { content = codes "error 10 " ++ rtc_error_text Glare; is = refl; whole = none_append 10 (codes "error 10 ") (rtc_error_text Glare) refl is }

pub end_whole : (end : PollEnd) → EndsInLine end → AllByRecursion IsOneLine (end_lines end)
end_whole Ended is = tt
end_whole (EndRefused error) is = (error_whole error is, tt)
end_whole NoRoom is = (lack_whole, tt)
