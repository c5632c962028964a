-- What acts leave of the parts of messages at an end of the plain association, and of the pieces that it sends.
use Rattle.std.proofs.Common.{◌≡◌, ◌∙◌, ◌⊎◌, ◌-◌, ◌++◌, ◌∷◌, inl, inr, cond, ℕ, Bool, true, false, List, [], length, Option, Some, None, Result, refl, sym, subst}
use Rattle.std.specs.declared.alloc.AllocError.{AllocError}
use Rattle.rtc_parts.specs.declared.assoc_event.AssocEvent.TheVariants.{Connected}
use Rattle.rtc_parts.specs.Ppi.{ppi_number}
use Rattle.rtc_parts.specs.AssociationActs.{AssociationAct, Started, Opened, Wrote, Ended, Given, Taken, Read, Told as ToldEvent, Stirred, Starts, ByConnect, ByAccept, BySnap, Stirs, LimitsSet, ConnectRefused, AcceptRefused, SnapRefused, OpenRefused, WriteRefused, ReadRefused, EndRefused, ThresholdSet, ReliabilitySet, Acted}
use Rattle.rtc_parts.specs.AssociationWords.{written}
use Rattle.rtc_parts.specs.Why.{Timed, Shut as ShutDown, Other}
use Rattle.rtc_assoc_state.specs.declared.item.Item.{Item}
use Rattle.rtc_assoc_state.specs.declared.frame.Frame.{Frame}
use Rattle.rtc_assoc_state.specs.declared.frame.Frame.TheVariants.{Hello, Welcome, Data, Acknowledgement, Shutdown}
use Rattle.rtc_assoc_state.specs.Packets.{frame_in}
use Rattle.rtc_assoc_state.specs.Pieces.{pieces_of}
use Rattle.rtc_assoc_state.specs.Contents.{Contents, generation_of, is_server}
use Rattle.rtc_assoc_state.specs.Streams.{stream_of}
use Rattle.rtc_assoc_state.specs.Calls.{limited, started_as, said_hello, connected, accepted, snapped, opened, sent, message_written, next_message, taken_out, stream_ended, thresholded, shut_down, greeted, welcomed, acknowledged, answered, lost, framed, at_moment, half_taken, timed, event_given, packet_given}
use Rattle.rtc_assoc_state.specs.PlainMeaning.{plain_meaning, Gives, open_cause, write_cause, end_cause, stream_cause, ending_cause, Leaves, Sends, Reads}
use Rattle.rtc_assoc_state.proofs.DoesLemmas.{refused_changes_nothing, does_leaves, gives, times, polls_some, transmits_some, reads_some}
use Rattle.rtc_sctp_laws.proofs.KeptLists.{HasPart, part_before}
use Rattle.rtc_sctp_laws.proofs.PartItems.{ActParts, BringsPiece, HasPiece, PacketParts, Stay, act_stay, came_parts, own_pieces, packet_stay, piece_either, stay_acknowledged, stay_front, stay_none, stay_same, with_close, written_own}

-- ---- packets

stay_welcomed : (p : Contents) → Stay p (welcomed p)
unfolding welcomed
stay_welcomed p = by (is_server p.standing.role)
  where
    by : (b : Bool) → Stay p (cond b (record p { standing = record p.standing { connected = true }; events = p.events ++ (cond p.standing.connected [] (Connected ∷ [])); packets = p.packets ++ (2 ∷ []) ∷ [] }) p)
    by true = stay_same p _ refl refl
    by false = stay_none p

stay_greeted : (p : Contents) → Stay p (greeted p)
unfolding greeted
stay_greeted p = stay_same p (greeted p) refl refl

stay_lost : (p : Contents) → Stay p (lost p)
unfolding lost
stay_lost p = stay_same p (lost p) refl refl

moment_parts : (f : Option Frame) (now : ℕ) (p q : Contents) → Stay p q → PacketParts f p (at_moment now q)
unfolding at_moment
moment_parts f now p q h = record { items = λ s g k. h.items s g k; parts = λ s g k. inl (h.parts s g k) }

data_parts : (now n number : ℕ) (item : Item) (p : Contents) → PacketParts (Some (Data n number item)) p (at_moment now (framed now (Some (Data n number item)) p))
unfolding at_moment answered
data_parts now n number item p =
    let front = stay_front n p in
    let came = came_parts n number item (acknowledged n (greeted p)) now in
    record { items = λ s g k. front.items s g (came.items s g k); parts = λ s g k. by s g front (came.parts s g k) }
  where
    by : (s g : ℕ) → Stay p (acknowledged n (greeted p)) → HasPart s g (acknowledged n (greeted p)).inbox.parts ⊎ BringsPiece s g (Some (Data n number item))
        → HasPart s g p.inbox.parts ⊎ BringsPiece s g (Some (Data n number item))
    by s g front (inl k) = inl (front.parts s g k)
    by s g front (inr k) = inr k

framed_parts : (now : ℕ) (f : Option Frame) (p : Contents) → PacketParts f p (at_moment now (framed now f p))
framed_parts now None p = moment_parts None now p p (stay_none p)
framed_parts now (Some Hello) p = moment_parts (Some Hello) now p (welcomed p) (stay_welcomed p)
framed_parts now (Some Welcome) p = moment_parts (Some Welcome) now p (greeted p) (stay_greeted p)
framed_parts now (Some (Data n number item)) p = data_parts now n number item p
framed_parts now (Some (Acknowledgement n)) p = moment_parts (Some (Acknowledgement n)) now p (acknowledged n p) (stay_acknowledged n p)
framed_parts now (Some Shutdown) p = moment_parts (Some Shutdown) now p (lost p) (stay_lost p)

half_parts : (f : Option Frame) (p : Contents) → PacketParts f p (half_taken f p)
half_parts None p = packet_stay None p p (stay_none p)
half_parts (Some Hello) p = packet_stay (Some Hello) p p (stay_none p)
half_parts (Some Welcome) p = packet_stay (Some Welcome) p p (stay_none p)
half_parts (Some (Data n number item)) p = packet_stay (Some (Data n number item)) p (acknowledged n (greeted p)) (stay_front n p)
half_parts (Some (Acknowledgement n)) p = packet_stay (Some (Acknowledgement n)) p p (stay_none p)
half_parts (Some Shutdown) p = packet_stay (Some Shutdown) p p (stay_none p)

given_parts : (p q : Contents) (now : ℕ) (bytes : List ℕ) (r : Result (Unit {0}) AllocError) → Gives p now bytes r q → ActParts p (Given bytes) q
given_parts p q now bytes r h =
    let k : PacketParts (frame_in bytes) p q =
    gives (PacketParts (frame_in bytes) p) p q now bytes r (packet_stay (frame_in bytes) p p (stay_none p)) (half_parts (frame_in bytes) p)
    (framed_parts now (frame_in bytes) p) h in
    record { items = λ s g x. inl (k.items s g x); parts = λ s g x. k.parts s g x }

-- ---- acts

parts_at : (p q r : Contents) (act : AssociationAct) → q ≡ r → Stay p r → ActParts p act q
parts_at p q r act e h = subst (ActParts p act) (sym e) (act_stay p r act h)

stay_opened : (t : ℕ) (p : Contents) → Stay p (opened t p)
unfolding opened
stay_opened t p = stay_same p (opened t p) refl refl

stay_thresholded : (t n : ℕ) (p : Contents) → Stay p (thresholded t n p)
unfolding thresholded
stay_thresholded t n p = stay_same p (thresholded t n p) refl refl

stay_ended : (now t : ℕ) (p : Contents) → Stay p (stream_ended now t p)
unfolding stream_ended sent
stay_ended now t p = record {
  items = λ s g h. with_close s g t (stream_of t p.streams).generation p.outbox.items h;
  parts = λ s g h. part_before s g t (stream_of t p.streams).generation p.inbox.parts h;
}

written_parts : (t n i : ℕ) (bytes : List ℕ) (p : Contents) → n ≡ generation_of p t → ActParts p (Wrote t n i bytes) (message_written t i bytes p)
unfolding sent
written_parts t n i bytes p is = record {
  items = λ s g h.
      by s g
      (piece_either s g p.outbox.items (pieces_of (p.limits.max_payload - 28) t (stream_of t p.streams).generation i bytes) h);
  parts = λ s g h. inl h;
}
  where
    by : (s g : ℕ) → HasPiece s g p.outbox.items ⊎ HasPiece s g (pieces_of (p.limits.max_payload - 28) t (stream_of t p.streams).generation i bytes)
        → HasPiece s g p.outbox.items ⊎ (written s g (Wrote t n i bytes ∷ []) ≡ [] → ⊥)
    by s g (inl k) = inl k
    by s g (inr k) =
        let own = own_pieces (length bytes) (p.limits.max_payload - 28) t (stream_of t p.streams).generation i bytes s g k in
        inr (written_own t n i bytes s g own.0 (is ∙ own.1))

stay_connected : (now m : ℕ) (p : Contents) → Stay p (connected now m p)
unfolding started_as said_hello
stay_connected now m p = stay_same p (connected now m p) refl refl

stay_accepted : (now m : ℕ) (p : Contents) → Stay p (accepted now m p)
unfolding started_as
stay_accepted now m p = stay_same p (accepted now m p) refl refl

stay_snapped : (now m : ℕ) (p : Contents) → Stay p (snapped now m p)
unfolding snapped started_as
stay_snapped now m p = stay_same p (snapped now m p) refl refl

stay_limited : (n m : ℕ) (p : Contents) → Stay p (limited n m p)
unfolding limited
stay_limited n m p = stay_same p (limited n m p) refl refl

stay_taken_out : (t : ℕ) (p : Contents) → Stay p (taken_out t p)
unfolding taken_out
stay_taken_out t p = stay_same p (taken_out t p) refl refl

stay_shut_down : (p : Contents) → Stay p (shut_down p)
unfolding shut_down
stay_shut_down p = stay_same p (shut_down p) refl refl

stay_timed : (now : ℕ) (p : Contents) → Stay p (timed now p)
unfolding timed
stay_timed now p = stay_same p (timed now p) refl refl

started_parts : (p q : Contents) → Starts plain_meaning p q → ActParts p Started q
started_parts p q (ByConnect now m h) = parts_at p q (connected now m p) Started h.1 (stay_connected now m p)
started_parts p q (ByAccept now m h) = parts_at p q (accepted now m p) Started h.1 (stay_accepted now m p)
started_parts p q (BySnap now m l o h) = parts_at p q (snapped now m p) Started h.1 (stay_snapped now m p)

abbrev Still : Contents → Contents → Type 0
Still p q = ActParts p (Stirred Other) q

still_same : (p q : Contents) → q ≡ p → Still p q
still_same p q e = parts_at p q p (Stirred Other) e (stay_none p)

stirred_parts : (p q : Contents) → Stirs plain_meaning p q → Still p q
stirred_parts p q (LimitsSet n m h) = parts_at p q (limited n m p) (Stirred Other) h (stay_limited n m p)
stirred_parts p q (ConnectRefused now m e k h) = still_same p q (refused_changes_nothing None p q (Leaves (connected now m p)) e h)
stirred_parts p q (AcceptRefused now m e k h) = still_same p q (refused_changes_nothing None p q (Leaves (accepted now m p)) e h)
stirred_parts p q (SnapRefused now m l o e k h) = still_same p q (refused_changes_nothing None p q (Leaves (snapped now m p)) e h)
stirred_parts p q (OpenRefused id e h) = still_same p q (refused_changes_nothing (open_cause p id) p q (Leaves (opened id p)) e h)
stirred_parts p q (WriteRefused id i b e h) = still_same p q (refused_changes_nothing (write_cause p id b) p q (λ n o. (n ≡ length b) × Sends p (message_written id (ppi_number i) b p) o) e h)
stirred_parts p q (ReadRefused id e h) = still_same p q (refused_changes_nothing (stream_cause p id) p q (λ m o. Reads (next_message id p) id p m o) e h)
stirred_parts p q (EndRefused id e h) = still_same p q (refused_changes_nothing {T = Unit {0}} (end_cause p id) p q (λ _ o. Sends p (stream_ended p.clock.now id p) o) e h)
stirred_parts p q (ThresholdSet id n r h) =
    does_leaves (Still p) (stream_cause p id) p (thresholded id n p) q r (act_stay p p (Stirred Other) (stay_none p))
    (act_stay p (thresholded id n p) (Stirred Other) (stay_thresholded id n p)) h
stirred_parts p q (ReliabilitySet id u t n r h) =
    does_leaves (Still p) (stream_cause p id) p p q r (act_stay p p (Stirred Other) (stay_none p)) (act_stay p p (Stirred Other) (stay_none p)) h

pub act_parts : (p q : Contents) (act : AssociationAct) → Acted plain_meaning p act q → ActParts p act q
act_parts p q Started h = started_parts p q h.1
act_parts p q (Opened t n) h = parts_at p q (opened t p) (Opened t n) h.0.1 (stay_opened t p)
act_parts p q (Wrote t n i b) h =
    subst (ActParts p (Wrote t n i b)) (sym h.1.1.0.1.1.0)
    (subst (λ (k : ℕ). ActParts p (Wrote t n k b) (message_written t (ppi_number h.0) b p)) (sym h.1.1.1)
    (written_parts t n (ppi_number h.0) b p h.1.1.2))
act_parts p q (Ended t n) h = parts_at p q (stream_ended p.clock.now t p) (Ended t n) h.0.1.0 (stay_ended p.clock.now t p)
act_parts p q (Given b) h = given_parts p q h.0 b h.1.0 h.1.1
act_parts p q (Taken b) h =
    let w = transmits_some p.packets p q b h in
    parts_at p q (packet_given w.0.rest p) (Taken b) w.1.1 (stay_same p (packet_given w.0.rest p) refl refl)
act_parts p q (Read t n i b) h =
    let w = reads_some (next_message t p) t p q (h.0, b) h.1.0.1 in parts_at p q (taken_out t p) (Read t n i b) w.1.2 (stay_taken_out t p)
act_parts p q (ToldEvent e) h =
    let w = polls_some p.events p q e h in
    parts_at p q (event_given w.0.rest p) (ToldEvent e) w.1 (stay_same p (event_given w.0.rest p) refl refl)
act_parts p q (Stirred (Timed now)) h =
    times (ActParts p (Stirred (Timed now))) p q now h.0 (act_stay p p (Stirred (Timed now)) (stay_none p))
    (act_stay p (timed now p) (Stirred (Timed now)) (stay_timed now p)) h.1
act_parts p q (Stirred ShutDown) h =
    does_leaves (ActParts p (Stirred ShutDown)) (ending_cause p) p (shut_down p) q h.0 (act_stay p p (Stirred ShutDown) (stay_none p))
    (act_stay p (shut_down p) (Stirred ShutDown) (stay_shut_down p)) h.1
act_parts p q (Stirred Other) h = stirred_parts p q h
