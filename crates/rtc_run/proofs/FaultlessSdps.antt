-- What no cause refuses is accepted.
use Rattle.std.proofs.Common.{◌≡◌, ℕ, Bool, true, false, List, length, Option, Some, None, refl, sym, subst, ◌∙◌}
use Rattle.rtc_sdp_values.specs.declared.line_row.LineRow.{LineRow}
use Rattle.rtc_sdp_values.specs.declared.sdp.Sdp.{Sdp}
use Rattle.rtc_change.specs.Held.{Held, Asked}
use Rattle.rtc_change.specs.Plans.{verdict}
use Rattle.rtc_change.specs.declared.refusal.Refusal.{Refusal}
use Rattle.rtc_change.specs.declared.refusal.Refusal.TheVariants.{RemoteSdp as RefusedSdp, Sdp as RefusedAsSdp}
use Rattle.rtc_peer_core.specs.declared.rtc_error.RtcError.TheVariants.{Net, Media as MediaFailed}
use Rattle.rtc_peer_core.specs.declared.rtc_error.RtcError.TheVariants.{RemoteSdp, Sdp as SdpRefused, Dtls, Sctp, ChangesOutOfOrder, BadChannel, Alloc as PeerAlloc, Glare}
use Rattle.rtc_parts.specs.declared.dtls_error.DtlsError.TheVariants.{WouldBlock, Fault, Alloc as DtlsAlloc}
use Rattle.rtc_run_history.specs.declared.side.Side.{Side}
use Rattle.rtc_run_history.specs.declared.outcome.Outcome.{Outcome}
use Rattle.rtc_run_history.specs.declared.outcome.Outcome.TheVariants.{Negotiated, Answered, Finished, Done, Wrote, Polled, Refused, NoSuch, Alloc}
use Rattle.rtc_run_history.specs.declared.table.Table.{Table}
use Rattle.rtc_run_history.specs.Past.{Entry, sdps, remote_sdp, holds_token, is_right}
use Rattle.rtc_run_history.specs.Signalled.{Signalled, Readable, foreign}
use Rattle.rtc_run_history.specs.Sound.{RepliesToOffer, RepliesToAnswer, asked_in, is_glare_at}
use Rattle.rtc_run_history.specs.Views.{Stances, view_in}
use Rattle.rtc_peer_core.specs.Stance.{held_by}
use Rattle.rtc_run.specs.Completeness.{SucceedsOrFails, IsFaultlessOffer, IsFaultlessAnswer, FaultlessOffersPass, FaultlessAnswersPass, ForeignOffersPass, ForeignAnswersPass}

-- one cause is not none
no_cause : {R : Type 0} (found : Option Refusal) (why : Refusal) → found ≡ Some why → found ≡ None → R
no_cause {R} found why is none = absurd (let bad : Some why ≡ None = sym is ∙ none in cc)

offer_passes : {E : Type 0} → (sdp : Sdp) (view : Held) (next : ℕ) (outcome : Outcome E) (after : List LineRow) → RepliesToOffer false (Readable sdp) view next outcome after
    → verdict view None sdp ≡ None → SucceedsOrFails outcome
offer_passes sdp view next (Answered k) after replies passes = refl
offer_passes sdp view next (Refused (RemoteSdp why)) after replies passes = no_cause (verdict view None sdp) (RefusedSdp why) replies.0 passes
offer_passes sdp view next (Refused (SdpRefused error)) after replies passes = no_cause (verdict view None sdp) (RefusedAsSdp error) replies.0 passes
offer_passes sdp view next (Refused (Dtls Fault)) after replies passes = refl
offer_passes sdp view next (Refused (Dtls WouldBlock)) after replies passes = absurd replies
offer_passes sdp view next (Refused (Dtls DtlsAlloc)) after replies passes = absurd replies
offer_passes sdp view next (Refused (Sctp error)) after replies passes = rw replies.0 refl
offer_passes sdp view next (Refused ChangesOutOfOrder) after replies passes = absurd replies
offer_passes sdp view next (Refused (Net cause)) after replies passes = absurd replies
offer_passes sdp view next (Refused (MediaFailed cause)) after replies passes = absurd replies
offer_passes sdp view next (Refused BadChannel) after replies passes = absurd replies
offer_passes sdp view next (Refused Glare) after replies passes = absurd replies
offer_passes sdp view next (Refused PeerAlloc) after replies passes = refl
offer_passes sdp view next (Negotiated answers made) after replies passes = absurd replies
offer_passes sdp view next Finished after replies passes = absurd replies
offer_passes sdp view next Done after replies passes = absurd replies
offer_passes sdp view next (Wrote taken) after replies passes = absurd replies
offer_passes sdp view next (Polled outputs end) after replies passes = absurd replies
offer_passes sdp view next NoSuch after replies passes = absurd replies
offer_passes sdp view next Alloc after replies passes = absurd replies

offer_taken : {E : Type 0} → (fresh : Stances) (past : List (Entry E)) (between : Stances) (at : Side) (said : Signalled) (outcome : Outcome E) (table : Table) → IsFaultlessOffer fresh past between at said
    → RepliesToOffer (is_glare_at fresh at past) said (view_in fresh at past (held_by (between at))) (length (sdps past)) outcome table.lines → SucceedsOrFails outcome
offer_taken fresh past between at said outcome table faultless replies =
    let G : Bool → Type 0 = λ (glare : Bool). RepliesToOffer glare said (view_in fresh at past (held_by (between at))) (length (sdps past)) outcome table.lines in
    let P : Signalled → Type 0 = λ (found : Signalled). RepliesToOffer false found (view_in fresh at past (held_by (between at))) (length (sdps past)) outcome table.lines in
    offer_passes faultless.offer (view_in fresh at past (held_by (between at))) (length (sdps past)) outcome table.lines
    (subst P faultless.there (subst G faultless.no_glare replies)) faultless.passes

pub faultless_offers : {E : Type 0} → FaultlessOffersPass E
faultless_offers fresh past between at k (Answered n) (Some table) made sound faultless = refl
faultless_offers fresh past between at k (Refused error) (Some table) made sound faultless = offer_taken fresh past between at (remote_sdp true at k past) (Refused error) table faultless sound.0
faultless_offers fresh past between at k (Negotiated answers what) (Some table) made sound faultless = offer_taken fresh past between at (remote_sdp true at k past) (Negotiated answers what) table faultless sound.0
faultless_offers fresh past between at k Finished (Some table) made sound faultless = refl
faultless_offers fresh past between at k Done (Some table) made sound faultless = refl
faultless_offers fresh past between at k (Wrote taken) (Some table) made sound faultless = refl
faultless_offers fresh past between at k (Polled outputs end) (Some table) made sound faultless = refl
faultless_offers fresh past between at k NoSuch (Some table) made sound faultless = offer_taken fresh past between at (remote_sdp true at k past) NoSuch table faultless sound.0
faultless_offers fresh past between at k Alloc table made sound faultless = refl
faultless_offers fresh past between at k outcome None made sound faultless = absurd sound

pub foreign_offers : {E : Type 0} → ForeignOffersPass E
foreign_offers fresh past between at text (Answered n) (Some table) made sound faultless = refl
foreign_offers fresh past between at text (Refused error) (Some table) made sound faultless = offer_taken fresh past between at (foreign text) (Refused error) table faultless sound.0
foreign_offers fresh past between at text (Negotiated answers what) (Some table) made sound faultless = offer_taken fresh past between at (foreign text) (Negotiated answers what) table faultless sound.0
foreign_offers fresh past between at text Finished (Some table) made sound faultless = refl
foreign_offers fresh past between at text Done (Some table) made sound faultless = refl
foreign_offers fresh past between at text (Wrote taken) (Some table) made sound faultless = refl
foreign_offers fresh past between at text (Polled outputs end) (Some table) made sound faultless = refl
foreign_offers fresh past between at text NoSuch (Some table) made sound faultless = offer_taken fresh past between at (foreign text) NoSuch table faultless sound.0
foreign_offers fresh past between at text Alloc table made sound faultless = refl
foreign_offers fresh past between at text outcome None made sound faultless = absurd sound

answer_passes : {E : Type 0} → (asked : Asked) (sdp : Sdp) (view : Held) (outcome : Outcome E) (after : List LineRow) → RepliesToAnswer true true asked (Readable sdp) view outcome after
    → verdict view (Some asked) sdp ≡ None → SucceedsOrFails outcome
answer_passes asked sdp view Finished after replies passes = refl
answer_passes asked sdp view (Refused (RemoteSdp why)) after replies passes = no_cause (verdict view (Some asked) sdp) (RefusedSdp why) replies.0 passes
answer_passes asked sdp view (Refused (SdpRefused error)) after replies passes = no_cause (verdict view (Some asked) sdp) (RefusedAsSdp error) replies.0 passes
answer_passes asked sdp view (Refused (Dtls Fault)) after replies passes = refl
answer_passes asked sdp view (Refused (Dtls WouldBlock)) after replies passes = absurd replies
answer_passes asked sdp view (Refused (Dtls DtlsAlloc)) after replies passes = absurd replies
answer_passes asked sdp view (Refused (Sctp error)) after replies passes = rw replies.0 refl
answer_passes asked sdp view (Refused ChangesOutOfOrder) after replies passes = absurd replies
answer_passes asked sdp view (Refused (Net cause)) after replies passes = absurd replies
answer_passes asked sdp view (Refused (MediaFailed cause)) after replies passes = absurd replies
answer_passes asked sdp view (Refused BadChannel) after replies passes = absurd replies
answer_passes asked sdp view (Refused Glare) after replies passes = absurd replies
answer_passes asked sdp view (Refused PeerAlloc) after replies passes = refl
answer_passes asked sdp view (Negotiated answers made) after replies passes = absurd replies
answer_passes asked sdp view (Answered k) after replies passes = absurd replies
answer_passes asked sdp view Done after replies passes = absurd replies
answer_passes asked sdp view (Wrote taken) after replies passes = absurd replies
answer_passes asked sdp view (Polled outputs end) after replies passes = absurd replies
answer_passes asked sdp view NoSuch after replies passes = absurd replies
answer_passes asked sdp view Alloc after replies passes = absurd replies

answer_taken : {E : Type 0} → (fresh : Stances) (past : List (Entry E)) (between : Stances) (at : Side) (t : ℕ) (said : Signalled) (outcome : Outcome E) (table : Table) → IsFaultlessAnswer fresh past between at t said
    → RepliesToAnswer (holds_token at t past) (is_right at t past) (asked_in at t past) said (view_in fresh at past (held_by (between at))) outcome table.lines → SucceedsOrFails outcome
answer_taken fresh past between at t said outcome table faultless replies =
    let P : Bool → Type 0 = λ (held : Bool). RepliesToAnswer held (is_right at t past) (asked_in at t past) said (view_in fresh at past (held_by (between at))) outcome table.lines in
    let Q : Bool → Type 0 = λ (right : Bool). RepliesToAnswer true right (asked_in at t past) said (view_in fresh at past (held_by (between at))) outcome table.lines in
    let F : Signalled → Type 0 = λ (found : Signalled). RepliesToAnswer true true (asked_in at t past) found (view_in fresh at past (held_by (between at))) outcome table.lines in
    answer_passes (asked_in at t past) faultless.answer (view_in fresh at past (held_by (between at))) outcome table.lines
    (subst F faultless.there (subst Q faultless.right (subst P faultless.held replies))) faultless.passes

pub faultless_answers : {E : Type 0} → FaultlessAnswersPass E
faultless_answers fresh past between at t a Finished (Some table) made sound faultless = refl
faultless_answers fresh past between at t a (Refused error) (Some table) made sound faultless = answer_taken fresh past between at t (remote_sdp false at a past) (Refused error) table faultless sound.0
faultless_answers fresh past between at t a (Negotiated answers what) (Some table) made sound faultless = answer_taken fresh past between at t (remote_sdp false at a past) (Negotiated answers what) table faultless sound.0
faultless_answers fresh past between at t a (Answered n) (Some table) made sound faultless = refl
faultless_answers fresh past between at t a Done (Some table) made sound faultless = refl
faultless_answers fresh past between at t a (Wrote taken) (Some table) made sound faultless = refl
faultless_answers fresh past between at t a (Polled outputs end) (Some table) made sound faultless = refl
faultless_answers fresh past between at t a NoSuch (Some table) made sound faultless = answer_taken fresh past between at t (remote_sdp false at a past) NoSuch table faultless sound.0
faultless_answers fresh past between at t a Alloc table made sound faultless = refl
faultless_answers fresh past between at t a outcome None made sound faultless = absurd sound

pub foreign_answers : {E : Type 0} → ForeignAnswersPass E
foreign_answers fresh past between at t text Finished (Some table) made sound faultless = refl
foreign_answers fresh past between at t text (Refused error) (Some table) made sound faultless = answer_taken fresh past between at t (foreign text) (Refused error) table faultless sound.0
foreign_answers fresh past between at t text (Negotiated answers what) (Some table) made sound faultless = answer_taken fresh past between at t (foreign text) (Negotiated answers what) table faultless sound.0
foreign_answers fresh past between at t text (Answered n) (Some table) made sound faultless = refl
foreign_answers fresh past between at t text Done (Some table) made sound faultless = refl
foreign_answers fresh past between at t text (Wrote taken) (Some table) made sound faultless = refl
foreign_answers fresh past between at t text (Polled outputs end) (Some table) made sound faultless = refl
foreign_answers fresh past between at t text NoSuch (Some table) made sound faultless = answer_taken fresh past between at t (foreign text) NoSuch table faultless sound.0
foreign_answers fresh past between at t text Alloc table made sound faultless = refl
foreign_answers fresh past between at t text outcome None made sound faultless = absurd sound
