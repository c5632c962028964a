-- Steps that take what was written of the session descriptions of both sides, computed.
use Rattle.std.proofs.Common.{◌≡◌, ◌<◌, Bool, true, false, List, [], ◌∷◌, map, Some, refl, ap, arith}
use Rattle.std.specs.Prelude.{codes}
use Rattle.std.specs.List.{AllByRecursion}
use Rattle.rtc_parts.specs.declared.dtls_error.DtlsError.TheVariants.{Fault}
use Rattle.rtc_sctp_values.specs.declared.proto_error.ProtoError.TheVariants.{Fault as AssociationFault}
use Rattle.rtc_sctp_values.specs.declared.sctp_error.SctpError.TheVariants.{Proto}
use Rattle.rtc_sdp_values.specs.Sdp.{inconsistency}
use Rattle.rtc_sdp_values.specs.declared.ice_creds.IceCreds.{IceCreds}
use Rattle.rtc_sdp_values.specs.declared.inconsistent.Inconsistent.TheVariants.{EmptyGroup}
use Rattle.rtc_sdp_values.specs.declared.line_row.LineRow.{LineRow}
use Rattle.rtc_sdp_values.specs.declared.line_row.LineRow.TheVariants.{Media, App}
use Rattle.rtc_sdp_values.specs.declared.sdp_error.SdpError.TheVariants.{Inconsistent}
use Rattle.rtc_sdp_writer.specs.AsRead.{AreSourcesApart}
use Rattle.rtc_sdp_writer.proofs.Law.{written_reads_back}
use Rattle.rtc_peer_rows.specs.declared.why.Why.TheVariants.{BothLite, UnaskedRestart, WrongNewLines}
use Rattle.rtc_peer_rows.specs.declared.new_line.NewLine.TheVariants.{Count}
use Rattle.rtc_change.specs.Plans.{verdict, head_verdict, side_verdict}
use Rattle.rtc_peer_core.specs.declared.rtc_error.RtcError.TheVariants.{RemoteSdp, Sdp, Dtls, Sctp, ChangesOutOfOrder}
use Rattle.rtc_peer_core.specs.declared.sdp_head.SdpHead.{SdpHead}
use Rattle.rtc_peer_core.specs.Formed.{AreSdpCreds, HaveTokens}
use Rattle.rtc_peer_core.specs.MadeSdp.{told_line, row_told, with_candidates}
use Rattle.rtc_peer_core.proofs.FormedHeads.{IsFormedHead}
use Rattle.rtc_peer_core.proofs.ToldRows.{IsToldFormed, no_media_formed}
use Rattle.rtc_run_history.specs.declared.side.Side.TheVariants.{Left, Right}
use Rattle.rtc_run_history.specs.declared.step.Step.TheVariants.{AcceptOffer, AcceptAnswer}
use Rattle.rtc_run_history.specs.declared.outcome.Outcome.TheVariants.{Answered, Finished, Refused}
use Rattle.rtc_run_history.specs.Answers.{waiting_row}
use Rattle.rtc_run_history.specs.Past.{MadeSdp}
use Rattle.rtc_run_history.specs.Signalled.{Readable, arrival, signalled}
use Rattle.rtc_run_history.specs.Sound.{IsSound}
use Rattle.rtc_run_history.specs.Views.{last_accepted, creds_told}
use Rattle.rtc_run_history.proofs.WorkedEntries.{worked_head, worked_creds, other_creds, worked_sdp, told_bare, plain}
use Rattle.rtc_run_history.proofs.ChannelFacts.{crossed, left_mid, right_mid}
use Rattle.rtc_run_history.proofs.LineFacts.{here, there, sending, receiving, halted, with_halted, video_there, with_lost_offer}
use Rattle.rtc_run_history.proofs.RestartFacts.{shows, restarted, answered, unasked, lite_sides, lite_offer}
use Rattle.rtc_run_laws.proofs.PlainSdps.{sdp_legible}

-- ---- worked session descriptions are read as they are

pub worked_words : AreSdpCreds worked_creds
worked_words = record {
  ufrag = record { some = omega arith; size = omega arith; space = (refl, (refl, tt)); line = (refl, (refl, tt)) };
  pass = record { some = omega arith; size = omega arith; space = (refl, (refl, tt)); line = (refl, (refl, tt)) };
}

other_words : AreSdpCreds other_creds
other_words = record {
  ufrag = record { some = omega arith; size = omega arith; space = (refl, (refl, tt)); line = (refl, (refl, tt)) };
  pass = record { some = omega arith; size = omega arith; space = (refl, (refl, tt)); line = (refl, (refl, tt)) };
}

pub head_formed : (creds : IceCreds) (lite : Bool) → AreSdpCreds creds → IsFormedHead (record worked_head { lite = lite; creds = creds })
head_formed creds lite words = record {
  session = omega arith;
  creds = words;
  fingerprint = record { name = refl; size = refl; bytes = all_small };
  candidates = tt;
  size = omega arith;
  init = tt;
}
  where
    all_small : AllByRecursion (λ byte. byte < 256) (codes "0123456789abcdef0123456789abcdef")
    all_small = (omega arith, (omega arith, (omega arith, (omega arith, (omega arith, (omega arith, (omega arith, (omega arith, (omega arith, (omega arith, (omega arith, (omega arith, (omega arith, (omega arith, (omega arith, (omega arith, (omega arith, (omega arith, (omega arith, (omega arith, (omega arith, (omega arith, (omega arith, (omega arith, (omega arith, (omega arith, (omega arith, (omega arith, (omega arith, (omega arith, (omega arith, (omega arith, tt))))))))))))))))))))))))))))))))

pub bare_formed : (rows : List LineRow) → AllByRecursion IsToldFormed (map told_bare rows)
bare_formed [] = tt
bare_formed (row ∷ rows) = (no_media_formed, bare_formed rows)

bare_rows_are : (rows : List LineRow) → map row_told (map told_bare rows) ≡ rows
bare_rows_are [] = refl
bare_rows_are (row ∷ rows) = rw (bare_rows_are rows) refl

bare_apart : (head : SdpHead) (rows : List LineRow) → AreSourcesApart (map (told_line head) (map told_bare rows))
bare_apart head [] = tt
bare_apart head (Media place mid kind dir true remote_created ∷ rows) = (tt, bare_apart head rows)
bare_apart head (Media place mid kind dir false remote_created ∷ rows) = (tt, bare_apart head rows)
bare_apart head (App place mid ∷ rows) = (tt, bare_apart head rows)

pub with_apart : (head : SdpHead) (rows : List LineRow) → AreSourcesApart (with_candidates [] (map (told_line head) (map told_bare rows)))
with_apart head [] = tt
with_apart head (Media place mid kind dir true remote_created ∷ rows) = (tt, bare_apart head rows)
with_apart head (Media place mid kind dir false remote_created ∷ rows) = (tt, bare_apart head rows)
with_apart head (App place mid ∷ rows) = (tt, bare_apart head rows)

worked_read : (creds : IceCreds) (lite : Bool) (rows : List LineRow) → AreSdpCreds creds → HaveTokens rows
    → signalled (worked_sdp creds lite rows) ≡ Readable (worked_sdp creds lite rows)
unfolding signalled
worked_read creds lite rows words tokens =
    let head : SdpHead = record worked_head { lite = lite; creds = creds } in
    let whole = sdp_legible head (map told_bare rows) (head_formed creds lite words) (rw (bare_rows_are rows) tokens) (bare_formed rows) in
    ap arrival (written_reads_back (worked_sdp creds lite rows) (record { legible = whole; apart = with_apart head rows }))

-- those of the facts
says_here : signalled (worked_sdp worked_creds false (here ∷ [])) ≡ Readable (worked_sdp worked_creds false (here ∷ []))
says_here = worked_read worked_creds false (here ∷ []) worked_words (refl, tt)

says_there : signalled (worked_sdp worked_creds false (there ∷ [])) ≡ Readable (worked_sdp worked_creds false (there ∷ []))
says_there = worked_read worked_creds false (there ∷ []) worked_words (refl, tt)

again_here : signalled (worked_sdp other_creds false (here ∷ [])) ≡ Readable (worked_sdp other_creds false (here ∷ []))
again_here = worked_read other_creds false (here ∷ []) other_words (refl, tt)

again_there : signalled (worked_sdp other_creds false (there ∷ [])) ≡ Readable (worked_sdp other_creds false (there ∷ []))
again_there = worked_read other_creds false (there ∷ []) other_words (refl, tt)

again_receiving : signalled (worked_sdp other_creds false (receiving ∷ [])) ≡ Readable (worked_sdp other_creds false (receiving ∷ []))
again_receiving = worked_read other_creds false (receiving ∷ []) other_words (refl, tt)

says_halted : signalled (worked_sdp worked_creds false (halted ∷ [])) ≡ Readable (worked_sdp worked_creds false (halted ∷ []))
says_halted = worked_read worked_creds false (halted ∷ []) worked_words (refl, tt)

says_both : signalled (worked_sdp worked_creds false (receiving ∷ video_there ∷ [])) ≡ Readable (worked_sdp worked_creds false (receiving ∷ video_there ∷ []))
says_both = worked_read worked_creds false (receiving ∷ video_there ∷ []) worked_words (refl, (refl, tt))

lite_here : signalled (worked_sdp worked_creds true (here ∷ [])) ≡ Readable (worked_sdp worked_creds true (here ∷ []))
lite_here = worked_read worked_creds true (here ∷ []) worked_words (refl, tt)

says_right : signalled (worked_sdp worked_creds false (App 0 right_mid ∷ [])) ≡ Readable (worked_sdp worked_creds false (App 0 right_mid ∷ []))
says_right = worked_read worked_creds false (App 0 right_mid ∷ []) worked_words (refl, tt)

says_left : signalled (worked_sdp worked_creds false (App 0 left_mid ∷ [])) ≡ Readable (worked_sdp worked_creds false (App 0 left_mid ∷ []))
says_left = worked_read worked_creds false (App 0 left_mid ∷ []) worked_words (refl, tt)

-- ---- a token that was superseded

crossed_refused : (made : List MadeSdp)
    → IsSound {E = Unit {0}} plain crossed plain (AcceptAnswer Left 0 3) (Refused ChangesOutOfOrder)
    (Some (record { lines = App 0 right_mid ∷ []; channels = waiting_row 0 ∷ [] })) made
crossed_refused made = rw says_left (refl, refl)

-- ---- lines

-- an offer that groups no line is refused
none_grouped : (made : List MadeSdp)
    → IsSound {E = Unit {0}} plain with_halted plain (AcceptOffer Right 2) (Refused (Sdp (Inconsistent EmptyGroup)))
    (Some (record { lines = there ∷ []; channels = [] })) made
unfolding verdict head_verdict side_verdict inconsistency
none_grouped made = rw (says_halted, says_here) ((refl, refl), refl)

-- an answer has a line more than its offer asked for
line_too_many : (made : List MadeSdp)
    → IsSound {E = Unit {0}} plain with_lost_offer plain (AcceptAnswer Left 4 5) (Refused (RemoteSdp (WrongNewLines (Count 0 1))))
    (Some (record { lines = sending ∷ []; channels = [] })) made
unfolding verdict head_verdict side_verdict inconsistency
line_too_many made = rw (says_both, says_there) ((refl, refl), refl)

-- ---- restarts of ICE

-- a side knows the credentials of the first offer, and accepts those of the second
known_before : creds_told (last_accepted Right restarted) ≡ Some worked_creds
known_before = rw says_here refl

restart_accepted : (made : List MadeSdp)
    → IsSound {E = Unit {0}} plain restarted plain (AcceptOffer Right 2) (Answered 3) (Some (shows (there ∷ []))) made
unfolding verdict head_verdict side_verdict inconsistency
restart_accepted made = rw (again_here, says_here) ((refl, refl, refl), refl)

known_after : creds_told (last_accepted Right answered) ≡ Some other_creds
known_after = rw again_here refl

-- the answer may restart ICE too, since its offer did
answer_accepted : (made : List MadeSdp)
    → IsSound {E = Unit {0}} plain answered plain (AcceptAnswer Left 2 3) Finished (Some (shows (here ∷ []))) made
unfolding verdict head_verdict side_verdict inconsistency
answer_accepted made = rw (again_there, says_there) ((refl, refl), refl)

-- an answer restarts ICE, and its offer did not
unasked_refused : (made : List MadeSdp)
    → IsSound {E = Unit {0}} plain unasked plain (AcceptAnswer Left 2 3) (Refused (RemoteSdp (UnaskedRestart worked_creds other_creds)))
    (Some (shows (sending ∷ []))) made
unfolding verdict head_verdict side_verdict inconsistency
unasked_refused made = rw (again_receiving, says_there) ((refl, refl), refl)

-- the acceptance of what no cause refuses may be broken off, and leaves the rows
fault_told : (made : List MadeSdp)
    → IsSound {E = Unit {0}} plain restarted plain (AcceptOffer Right 2) (Refused (Dtls Fault)) (Some (shows (there ∷ []))) made
unfolding verdict head_verdict side_verdict inconsistency
fault_told made = rw (again_here, says_here) ((refl, refl), refl)

-- so may be that of an association
association_fault_told : (made : List MadeSdp)
    → IsSound {E = Unit {0}} plain restarted plain (AcceptOffer Right 2) (Refused (Sctp (Proto AssociationFault)))
    (Some (shows (there ∷ []))) made
unfolding verdict head_verdict side_verdict inconsistency
association_fault_told made = rw (again_here, says_here) ((refl, refl, refl), refl)

-- ---- both sides are lite

both_lite_refused : (made : List MadeSdp)
    → IsSound {E = Unit {0}} lite_sides lite_offer lite_sides (AcceptOffer Right 0) (Refused (RemoteSdp BothLite)) (Some (shows [])) made
unfolding verdict head_verdict side_verdict inconsistency
both_lite_refused made = rw lite_here ((refl, refl), refl)

-- a side that is not lite accepts it
one_lite_accepted : (made : List MadeSdp)
    → IsSound {E = Unit {0}} plain lite_offer plain (AcceptOffer Right 0) (Answered 1) (Some (shows (there ∷ []))) made
unfolding verdict head_verdict side_verdict inconsistency
one_lite_accepted made = rw lite_here ((refl, refl, refl), refl)
