-- The acts of one step at an end.
use Rattle.std.proofs.Common.{ℕ, zero, suc, ◌≡◌, ◌&&◌, not, inl, inr, Bool, true, false, List, [], ◌∷◌, ◌++◌, length, Option, Some, None, Ok, refl, sym, ap, subst, ◌∙◌, append-nil}
use Rattle.std.specs.Prelude.{slice_get}
use Rattle.rtc_parts.specs.declared.ppi.Ppi.{Ppi}
use Rattle.rtc_parts.specs.Ppi.{ppi_number}
use Rattle.rtc_parts.specs.Why.{Timed, Other}
use Rattle.rtc_parts.specs.Among.{Member}
use Rattle.rtc_parts.specs.AssociationActs.{AssociationAct, Started, Opened, Wrote as WroteAct, Ended, Given, Taken, Read as ReadAct, Told, Stirred, ByConnect, ByAccept, ConnectRefused, AcceptRefused, OpenRefused, WriteRefused, ReadRefused, EndRefused, Acted, Moved, moved-one}
use Rattle.rtc_parts.specs.AssociationWords.{given, taken, written, read, told}
use Rattle.rtc_assoc_state.specs.Contents.{Contents, is_started, generation_of}
use Rattle.rtc_assoc_state.specs.PlainMeaning.{plain_meaning}
use Rattle.rtc_assoc_state.proofs.PlainLaws.{plain_laws}
use Rattle.rtc_assoc.specs.declared.sent.Sent.{Sent}
use Rattle.rtc_assoc.specs.declared.assoc_step.AssocStep.{AssocStep}
use Rattle.rtc_assoc.specs.declared.assoc_step.AssocStep.TheVariants.{Connect, Accept, Open, Write, CloseStream, Time, Transmit, Deliver, Poll, Read}
use Rattle.rtc_assoc.specs.declared.assoc_reply.AssocReply.{AssocReply}
use Rattle.rtc_assoc.specs.declared.assoc_reply.AssocReply.TheVariants.{Done, Refused, Wrote, Packet, Event, Message, NoSuch}
use Rattle.rtc_assoc.specs.Steps as step
use Rattle.rtc_assoc.specs.Steps.{at_left, Tried, is_packet_for, bytes_of, PerformsAssocStep}
use Rattle.rtc_assoc.specs.Replies.{same_end, wrote_by, read_by, told_by}

abbrev pub sent : Bool → List ℕ → Sent
sent left bytes = record { from_left = left; bytes = bytes }

abbrev pub sents : Bool → List (List ℕ) → List Sent
sents left [] = []
sents left (bytes ∷ packets) = sent left bytes ∷ sents left packets

-- what a step did at its end: acts that were given what the other end had sent, whose packets are put at the end, and
-- that wrote, read and told what the reply says
pub record Acts (s : AssocStep) (reply : AssocReply) (p q : Contents) (packets after : List Sent) : Type 0 where
  pub acts : List AssociationAct
  pub moved : Moved plain_meaning p acts q
  pub gives : (bytes : List ℕ) → Member bytes (given acts) → Member (sent (not (at_left s)) bytes) packets
  pub takes : after ≡ packets ++ sents (at_left s) (taken acts)
  pub wrote : (t g : ℕ) → written t g acts ≡ wrote_by s reply (at_left s) t g
  pub read_is : (t g : ℕ) → read t g acts ≡ read_by s reply (at_left s) t g
  pub told_is : told acts ≡ told_by s reply (at_left s)

same_self : (b : Bool) → same_end b b ≡ true
same_self true = refl
same_self false = refl

-- a step that is answered so writes, reads and tells nothing
pub record Says (s : AssocStep) (reply : AssocReply) : Type 0 where
  pub writes : (left : Bool) (t g : ℕ) → wrote_by s reply left t g ≡ []
  pub reads : (left : Bool) (t g : ℕ) → read_by s reply left t g ≡ []
  pub tells : (left : Bool) → told_by s reply left ≡ []

says_no_such : (s : AssocStep) → Says s NoSuch
says_no_such (Connect l) = record { writes = λ l t g. refl; reads = λ l t g. refl; tells = λ l. refl }
says_no_such (Accept l) = record { writes = λ l t g. refl; reads = λ l t g. refl; tells = λ l. refl }
says_no_such (Open l id) = record { writes = λ l t g. refl; reads = λ l t g. refl; tells = λ l. refl }
says_no_such (Write l id ppi bytes) = record { writes = λ l t g. refl; reads = λ l t g. refl; tells = λ l. refl }
says_no_such (CloseStream l id) = record { writes = λ l t g. refl; reads = λ l t g. refl; tells = λ l. refl }
says_no_such (Time l now) = record { writes = λ l t g. refl; reads = λ l t g. refl; tells = λ l. refl }
says_no_such (Transmit l) = record { writes = λ l t g. refl; reads = λ l t g. refl; tells = λ l. refl }
says_no_such (Deliver l n now) = record { writes = λ l t g. refl; reads = λ l t g. refl; tells = λ l. refl }
says_no_such (Poll l) = record { writes = λ l t g. refl; reads = λ l t g. refl; tells = λ l. refl }
says_no_such (Read l id) = record { writes = λ l t g. refl; reads = λ l t g. refl; tells = λ l. refl }

-- no act
acts_none : (s : AssocStep) (reply : AssocReply) (p q : Contents) (packets after : List Sent) → Says s reply → q ≡ p → after ≡ packets → Acts s reply p q packets after
acts_none s reply p q packets after n e f = record {
  acts = [];
  moved = e;
  gives = λ bytes m. absurd m;
  takes = f ∙ sym (append-nil packets);
  wrote = λ t g. sym (n.writes (at_left s) t g);
  read_is = λ t g. sym (n.reads (at_left s) t g);
  told_is = sym (n.tells (at_left s));
}

-- an act that is given and takes nothing
pub record Inner (act : AssociationAct) : Type 0 where
  pub gives : given (act ∷ []) ≡ []
  pub takes : taken (act ∷ []) ≡ []

acts_one : (s : AssocStep) (reply : AssocReply) (p q : Contents) (packets after : List Sent) (act : AssociationAct) → Inner act → Acted plain_meaning p act q → after ≡ packets → ((t g : ℕ) → written t g (act ∷ []) ≡ wrote_by s reply (at_left s) t g) → ((t g : ℕ) → read t g (act ∷ []) ≡ read_by s reply (at_left s) t g) → told (act ∷ []) ≡ told_by s reply (at_left s) → Acts s reply p q packets after
acts_one s reply p q packets after act i h f w r t = record {
  acts = act ∷ [];
  moved = moved-one plain_meaning p q act h;
  gives = λ bytes m. absurd (subst (λ (l : List (List ℕ)). Member bytes l) i.gives m);
  takes = f ∙ sym (append-nil packets) ∙ ap (λ l. packets ++ sents (at_left s) l) (sym i.takes);
  wrote = w;
  read_is = r;
  told_is = t;
}

acts_connect : (reply : AssocReply) (l : Bool) (p q : Contents) (packets : List Sent) → is_started p ≡ false → step.Connects reply p q → Acts (Connect l) reply p q packets packets
acts_connect Done l p q packets f h = acts_one (Connect l) Done p q packets packets Started (record { gives = refl; takes = refl }) (f, ByConnect 0 4294967295 h) refl (λ t g. refl) (λ t g. refl) refl
acts_connect (Refused e) l p q packets f h = acts_one (Connect l) (Refused e) p q packets packets (Stirred Other) (record { gives = refl; takes = refl }) (ConnectRefused 0 4294967295 e f h.1) refl (λ t g. refl) (λ t g. refl) refl
acts_connect (_) l p q packets f h = absurd h

acts_accept : (reply : AssocReply) (l : Bool) (p q : Contents) (packets : List Sent) → is_started p ≡ false → step.Accepts reply p q → Acts (Accept l) reply p q packets packets
acts_accept Done l p q packets f h = acts_one (Accept l) Done p q packets packets Started (record { gives = refl; takes = refl }) (f, ByAccept 0 4294967295 h) refl (λ t g. refl) (λ t g. refl) refl
acts_accept (Refused e) l p q packets f h = acts_one (Accept l) (Refused e) p q packets packets (Stirred Other) (record { gives = refl; takes = refl }) (AcceptRefused 0 4294967295 e f h.1) refl (λ t g. refl) (λ t g. refl) refl
acts_accept (_) l p q packets f h = absurd h

acts_open : (reply : AssocReply) (l : Bool) (id : ℕ) (p q : Contents) (packets : List Sent) → step.Opens id reply p q → Acts (Open l id) reply p q packets packets
acts_open Done l id p q packets h = acts_one (Open l id) Done p q packets packets (Opened id (generation_of p id)) (record { gives = refl; takes = refl }) (h, refl) refl (λ t g. refl) (λ t g. refl) refl
acts_open (Refused e) l id p q packets h = acts_one (Open l id) (Refused e) p q packets packets (Stirred Other) (record { gives = refl; takes = refl }) (OpenRefused id e h.1) refl (λ t g. refl) (λ t g. refl) refl
acts_open (_) l id p q packets h = absurd h

acts_write : (reply : AssocReply) (l : Bool) (id : ℕ) (ppi : Ppi) (bytes : List ℕ) (p q : Contents) (packets : List Sent) → step.Writes id ppi bytes reply p q → Acts (Write l id ppi bytes) reply p q packets packets
acts_write (Wrote n) l id ppi bytes p q packets h = acts_one (Write l id ppi bytes) (Wrote n) p q packets packets (WroteAct id n (ppi_number ppi) bytes) (record { gives = refl; takes = refl }) (ppi, (length bytes, (h.1, refl, h.0))) refl (λ t g. rw (same_self l) refl) (λ t g. refl) refl
acts_write (Refused e) l id ppi bytes p q packets h = acts_one (Write l id ppi bytes) (Refused e) p q packets packets (Stirred Other) (record { gives = refl; takes = refl }) (WriteRefused id ppi bytes e h.1) refl (λ t g. refl) (λ t g. refl) refl
acts_write (_) l id ppi bytes p q packets h = absurd h

acts_close : (reply : AssocReply) (l : Bool) (id : ℕ) (p q : Contents) (packets : List Sent) → step.ClosesStream id reply p q → Acts (CloseStream l id) reply p q packets packets
acts_close Done l id p q packets h = acts_one (CloseStream l id) Done p q packets packets (Ended id (generation_of p id)) (record { gives = refl; takes = refl }) (h, refl) refl (λ t g. refl) (λ t g. refl) refl
acts_close (Refused e) l id p q packets h = acts_one (CloseStream l id) (Refused e) p q packets packets (Stirred Other) (record { gives = refl; takes = refl }) (EndRefused id e h.1) refl (λ t g. refl) (λ t g. refl) refl
acts_close (_) l id p q packets h = absurd h

acts_time : (reply : AssocReply) (l : Bool) (now : ℕ) (p q : Contents) (packets : List Sent) → step.StepTimes now reply p q → Acts (Time l now) reply p q packets packets
acts_time Done l now p q packets h = acts_one (Time l now) Done p q packets packets (Stirred (Timed now)) (record { gives = refl; takes = refl }) (Ok tt, h) refl (λ t g. refl) (λ t g. refl) refl
acts_time (_) l now p q packets h = absurd h

acts_poll : (reply : AssocReply) (l : Bool) (p q : Contents) (packets : List Sent) → step.StepPolls reply p q → Acts (Poll l) reply p q packets packets
acts_poll (Event None) l p q packets h = acts_none (Poll l) (Event None) p q packets packets (record { writes = λ l t g. refl; reads = λ l t g. refl; tells = λ l. refl }) (plain_laws.event_none p q h) refl
acts_poll (Event (Some e)) l p q packets h = acts_one (Poll l) (Event (Some e)) p q packets packets (Told e) (record { gives = refl; takes = refl }) h refl (λ t g. refl) (λ t g. refl) (rw (same_self l) refl)
acts_poll (_) l p q packets h = absurd h

acts_read : (reply : AssocReply) (l : Bool) (id : ℕ) (p q : Contents) (packets : List Sent) → step.StepReads id reply p q → Acts (Read l id) reply p q packets packets
acts_read (Message n None) l id p q packets h = acts_none (Read l id) (Message n None) p q packets packets (record { writes = λ l t g. refl; reads = λ l t g. refl; tells = λ l. refl }) (plain_laws.read_none p q id h.1) refl
acts_read (Message n (Some m)) l id p q packets h = acts_one (Read l id) (Message n (Some m)) p q packets packets (ReadAct id n (ppi_number m.0) m.1) (record { gives = refl; takes = refl }) (m.0, (h.1, refl, h.0)) refl (λ t g. refl) (λ t g. rw (same_self l) refl) refl
acts_read (Refused e) l id p q packets h = acts_one (Read l id) (Refused e) p q packets packets (Stirred Other) (record { gives = refl; takes = refl }) (ReadRefused id e h.1) refl (λ t g. refl) (λ t g. refl) refl
acts_read (_) l id p q packets h = absurd h

-- a packet that is for an end is among those that the other one sent
some_same : (x y : Sent) → Some x ≡ Some y → x ≡ y
some_same x y e = cc

member_get : (packets : List Sent) (n : ℕ) (x : Sent) → slice_get packets n ≡ Some x → Member x packets
member_get [] n x e = absurd (let k : None ≡ Some x = e in cc)
member_get (p ∷ packets) zero x e = inl (some_same x p (sym e))
member_get (p ∷ packets) (suc n) x e = inr (member_get packets n x e)

other_end : (l : Bool) (x : Sent) → is_packet_for l (Some x) ≡ true → x.from_left ≡ not l
other_end true x e = not_true x.from_left e
  where
    not_true : (b : Bool) → not b ≡ true → b ≡ false
    not_true true e = absurd cc
    not_true false e = refl
other_end false x e = e

for_end : (l : Bool) (o : Option Sent) (packets : List Sent) (n : ℕ) → slice_get packets n ≡ o → is_packet_for l o ≡ true → Member (sent (not l) (bytes_of o)) packets
for_end l None packets n e f = absurd (let k : false ≡ true = f in cc)
for_end l (Some x) packets n e f = subst (λ (b : Bool). Member (sent b x.bytes) packets) (other_end l x f) (member_get packets n x e)

acts_deliver : (reply : AssocReply) (l : Bool) (n now : ℕ) (p q : Contents) (packets : List Sent) → is_packet_for l (slice_get packets n) ≡ true → step.Delivers (bytes_of (slice_get packets n)) now reply p q → Acts (Deliver l n now) reply p q packets packets
acts_deliver Done l n now p q packets f h =
    let bytes = bytes_of (slice_get packets n) in
    record {
      acts = Given bytes ∷ [];
      moved = moved-one plain_meaning p q (Given bytes) (now, (Ok tt, h));
      gives = λ b m. elim m [ inl e ↦ subst (λ (x : List ℕ). Member (sent (not l) x) packets) (sym e) (for_end l (slice_get packets n) packets n refl f) | inr k ↦ absurd k ];
      takes = sym (append-nil packets);
      wrote = λ t g. refl;
      read_is = λ t g. refl;
      told_is = refl;
    }
acts_deliver (_) l n now p q packets f h = absurd h

acts_transmit : (reply : AssocReply) (l : Bool) (p q : Contents) (packets after : List Sent) → step.StepTransmits l reply p q packets after → Acts (Transmit l) reply p q packets after
acts_transmit (Packet None) l p q packets after h = acts_none (Transmit l) (Packet None) p q packets after (record { writes = λ l t g. refl; reads = λ l t g. refl; tells = λ l. refl }) (plain_laws.packet_none p q h.0) h.1
acts_transmit (Packet (Some n)) l p q packets after h = record {
  acts = Taken h.bytes ∷ [];
  moved = moved-one plain_meaning p q (Taken h.bytes) h.gave;
  gives = λ b m. absurd m;
  takes = h.after_is;
  wrote = λ t g. refl;
  read_is = λ t g. refl;
  told_is = refl;
}
acts_transmit (_) l p q packets after h = absurd h

-- by whether a call was made
acts_tried : (s : AssocStep) (reply : AssocReply) (p q : Contents) (packets after : List Sent) (test : Bool) (Called : Type 0) → (test ≡ true → Called → Acts s reply p q packets packets) → Tried test Called reply p q × (after ≡ packets) → Acts s reply p q packets after
acts_tried s reply p q packets after test Called f h =
    subst (λ (l : List Sent). Acts s reply p q packets l) (sym h.1) (elim h.0 [
      | inl k ↦ subst (λ (r : AssocReply). Acts s r p q packets packets) (sym k.1) (acts_none s NoSuch p q packets packets (says_no_such s) k.2 refl)
      | inr k ↦ f k.0 k.1
    ])

unstarted : (b : Bool) → not b ≡ true → b ≡ false
unstarted true e = absurd cc
unstarted false e = refl

both_hold : (a b : Bool) → (a && b) ≡ true → b ≡ true
both_hold true b e = e
both_hold false b e = absurd cc

pub acts_of : (s : AssocStep) (reply : AssocReply) (p q : Contents) (packets after : List Sent) → PerformsAssocStep s reply p q packets after → Acts s reply p q packets after
acts_of (Connect l) reply p q packets after h = acts_tried (Connect l) reply p q packets after (not (is_started p)) (step.Connects reply p q) (λ e k. acts_connect reply l p q packets (unstarted (is_started p) e) k) h
acts_of (Accept l) reply p q packets after h = acts_tried (Accept l) reply p q packets after (not (is_started p)) (step.Accepts reply p q) (λ e k. acts_accept reply l p q packets (unstarted (is_started p) e) k) h
acts_of (Open l id) reply p q packets after h = acts_tried (Open l id) reply p q packets after (is_started p) (step.Opens id reply p q) (λ e k. acts_open reply l id p q packets k) h
acts_of (Write l id ppi bytes) reply p q packets after h = acts_tried (Write l id ppi bytes) reply p q packets after (is_started p) (step.Writes id ppi bytes reply p q) (λ e k. acts_write reply l id ppi bytes p q packets k) h
acts_of (CloseStream l id) reply p q packets after h = acts_tried (CloseStream l id) reply p q packets after (is_started p) (step.ClosesStream id reply p q) (λ e k. acts_close reply l id p q packets k) h
acts_of (Time l now) reply p q packets after h = acts_tried (Time l now) reply p q packets after (is_started p) (step.StepTimes now reply p q) (λ e k. acts_time reply l now p q packets k) h
acts_of (Transmit l) reply p q packets after (inl k) = subst (λ (r : AssocReply). Acts (Transmit l) r p q packets after) (sym k.1) (acts_none (Transmit l) NoSuch p q packets after (says_no_such (Transmit l)) k.2 k.3)
acts_of (Transmit l) reply p q packets after (inr k) = acts_transmit reply l p q packets after k.1
acts_of (Deliver l n now) reply p q packets after h = acts_tried (Deliver l n now) reply p q packets after (is_started p && is_packet_for l (slice_get packets n)) (step.Delivers (bytes_of (slice_get packets n)) now reply p q) (λ e k. acts_deliver reply l n now p q packets (both_hold (is_started p) (is_packet_for l (slice_get packets n)) e) k) h
acts_of (Poll l) reply p q packets after h = acts_tried (Poll l) reply p q packets after (is_started p) (step.StepPolls reply p q) (λ e k. acts_poll reply l p q packets k) h
acts_of (Read l id) reply p q packets after h = acts_tried (Read l id) reply p q packets after (is_started p) (step.StepReads id reply p q) (λ e k. acts_read reply l id p q packets k) h

-- a step writes, reads and tells nothing at the other end
same_not : (b : Bool) → same_end (not b) b ≡ false
same_not true = refl
same_not false = refl

pub record Elsewhere (s : AssocStep) (reply : AssocReply) : Type 0 where
  pub writes : (t g : ℕ) → wrote_by s reply (not (at_left s)) t g ≡ []
  pub reads : (t g : ℕ) → read_by s reply (not (at_left s)) t g ≡ []
  pub tells : told_by s reply (not (at_left s)) ≡ []

elsewhere_write : (reply : AssocReply) (l : Bool) (id : ℕ) (ppi : Ppi) (bytes : List ℕ) → Elsewhere (Write l id ppi bytes) reply
elsewhere_write (Wrote n) l id ppi bytes = record { writes = λ t g. rw (same_not l) refl; reads = λ t g. refl; tells = refl }
elsewhere_write (_) l id ppi bytes = record { writes = λ t g. refl; reads = λ t g. refl; tells = refl }

elsewhere_poll : (reply : AssocReply) (l : Bool) → Elsewhere (Poll l) reply
elsewhere_poll (Event None) l = record { writes = λ t g. refl; reads = λ t g. refl; tells = refl }
elsewhere_poll (Event (Some e)) l = record { writes = λ t g. refl; reads = λ t g. refl; tells = rw (same_not l) refl }
elsewhere_poll (_) l = record { writes = λ t g. refl; reads = λ t g. refl; tells = refl }

elsewhere_read : (reply : AssocReply) (l : Bool) (id : ℕ) → Elsewhere (Read l id) reply
elsewhere_read (Message n None) l id = record { writes = λ t g. refl; reads = λ t g. refl; tells = refl }
elsewhere_read (Message n (Some m)) l id = record { writes = λ t g. refl; reads = λ t g. rw (same_not l) refl; tells = refl }
elsewhere_read (_) l id = record { writes = λ t g. refl; reads = λ t g. refl; tells = refl }

pub elsewhere : (s : AssocStep) (reply : AssocReply) → Elsewhere s reply
elsewhere (Connect l) reply = record { writes = λ t g. refl; reads = λ t g. refl; tells = refl }
elsewhere (Accept l) reply = record { writes = λ t g. refl; reads = λ t g. refl; tells = refl }
elsewhere (Open l id) reply = record { writes = λ t g. refl; reads = λ t g. refl; tells = refl }
elsewhere (Write l id ppi bytes) reply = elsewhere_write reply l id ppi bytes
elsewhere (CloseStream l id) reply = record { writes = λ t g. refl; reads = λ t g. refl; tells = refl }
elsewhere (Time l now) reply = record { writes = λ t g. refl; reads = λ t g. refl; tells = refl }
elsewhere (Transmit l) reply = record { writes = λ t g. refl; reads = λ t g. refl; tells = refl }
elsewhere (Deliver l n now) reply = record { writes = λ t g. refl; reads = λ t g. refl; tells = refl }
elsewhere (Poll l) reply = elsewhere_poll reply l
elsewhere (Read l id) reply = elsewhere_read reply l id
