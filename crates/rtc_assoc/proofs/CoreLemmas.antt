-- What calls do to the items and messages of an end.
use Rattle.std.proofs.Common.{ℕ, ◌≡◌, ◌+◌, ◌-◌, ◌≤◌, ◌⊎◌, inl, inr, true, false, List, [], ◌∷◌, ◌++◌, length, drop, Some, refl, sym, ap, subst, ◌∙◌, arith, append-nil}
use Rattle.std.proofs.lemmas.Bool.Decides.{eqb_tells}
use Rattle.rtc_parts.specs.declared.assoc_event.AssocEvent.{AssocEvent}
use Rattle.rtc_parts.specs.Ppi.{ppi_number, ppi_of}
use Rattle.rtc_parts.specs.Among.{Member}
use Rattle.rtc_parts.specs.Why.{Timed, Shut as ShutDown, Other}
use Rattle.rtc_parts.specs.AssociationActs.{AssociationAct, Started, Opened, Wrote, Ended, Given, Taken, Read, Told, Stirred}
use Rattle.rtc_parts.specs.AssociationWords.{AssociationMessage, written, read, ended}
use Rattle.rtc_assoc_state.specs.declared.item.Item.{Item}
use Rattle.rtc_assoc_state.specs.Packets.{frame_in}
use Rattle.rtc_assoc_state.specs.Pieces.{pieces_of, close_of}
use Rattle.rtc_assoc_state.specs.declared.message.Message.{Message}
use Rattle.rtc_assoc_state.specs.declared.close_state.CloseState.TheVariants.{Queued}
use Rattle.rtc_assoc_state.specs.declared.stream_row.StreamRow.{StreamRow}
use Rattle.rtc_assoc_state.specs.Streams.{stream_of, put}
use Rattle.rtc_assoc_state.specs.Inbox.{Inbox, without_messages, forgotten}
use Rattle.rtc_assoc_state.specs.Outbox.{Outbox}
use Rattle.rtc_assoc_state.specs.Contents.{Contents}
use Rattle.rtc_assoc_state.specs.Says.{Queues}
use Rattle.rtc_assoc_state.specs.Calls as call
use Rattle.rtc_assoc_state.specs.Calls.{sent, first_message_of, messages_behind, next_message, taken_out}
use Rattle.rtc_assoc_state.proofs.RaiseLemmas.{stream_of-stream}
use Rattle.rtc_assoc_end.proofs.SaysLemmas.{queues_same}
use Rattle.rtc_assoc.specs.Unread.{unread, IsPrefix}
use Rattle.rtc_assoc.proofs.MessageLemmas.{is_pair, pair_tells, message, messages, left, messages-written, left-written, HasClose, close-pieces}
use Rattle.rtc_assoc.proofs.UnreadLemmas.{prefix_none, prefix_is, unread-without, unread-forgotten, unread-taken, unread-taken_other, so_far-without_other}
use Rattle.rtc_assoc.proofs.AliveLemmas.{alive, Shut, shut-fewer, shut-dies, shut-own}
use Rattle.rtc_assoc.proofs.ArriveLemmas.{Gets, no_reads, gets_none, empty_either, same_either}
use Rattle.rtc_assoc.proofs.FrameLemmas.{Acknowledges, Brings}

abbrev pub Causes : Contents → AssociationAct → ℕ → List Item → Type 0
Causes p (Given b) count got = Acknowledges p.outbox.acked count (frame_in b) × Brings p.inbox.received got (frame_in b)
Causes p (Taken b) count got = (count ≡ 0) × (got ≡ []) × Member b p.packets
Causes p _ count got = (count ≡ 0) × (got ≡ []) × Unit {0}

-- so many items are acknowledged, these are sent, and these came
pub record Core (p : Contents) (act : AssociationAct) (q : Contents) : Type 0 where
  pub count : ℕ
  pub more : List Item
  pub got : List Item
  pub causes : Causes p act count got
  pub within : count ≤ length p.outbox.items
  pub acked : q.outbox.acked ≡ p.outbox.acked + count
  pub items : q.outbox.items ≡ drop count p.outbox.items ++ more
  pub wrote : (s g : ℕ) → messages s g [] more ≡ written s g (act ∷ [])
  pub whole : (s g : ℕ) → left s g [] more ≡ []
  pub gets : Gets p.inbox p.streams got (λ s g. read s g (act ∷ [])) q.inbox q.streams
  pub closes : (s g : ℕ) → HasClose s g more → (ended s g (act ∷ []) ≡ true) ⊎ HasClose s g got
  pub dies : (s g : ℕ) → alive q.streams s g ≡ false → (alive p.streams s g ≡ false) ⊎ ((ended s g (act ∷ []) ≡ true) ⊎ HasClose s g got)

pub record Step (p : Contents) (act : AssociationAct) (q : Contents) : Type 0 where
  pub core : Core p act q
  pub queues : Queues p q

pub core_at : (p q r : Contents) (act : AssociationAct) → q ≡ r → Core p act r → Core p act q
core_at p q r act e h = subst (λ (x : Contents). Core p act x) (sym e) h

-- an act with which nothing is written, read, given, taken or ended
pub record IsQuiet (act : AssociationAct) : Type 0 where
  pub wrote : (s g : ℕ) → written s g (act ∷ []) ≡ []
  pub read_is : (s g : ℕ) → read s g (act ∷ []) ≡ []
  pub causes : (p : Contents) → Causes p act 0 []

pub core_quiet : (p q : Contents) (act : AssociationAct) → IsQuiet act → q.outbox ≡ p.outbox → q.inbox ≡ p.inbox → ((s g : ℕ) → alive q.streams s g ≡ alive p.streams s g) → Core p act q
core_quiet p q act i o b e =
    let same : Gets p.inbox p.streams [] (λ s g. read s g (act ∷ [])) p.inbox q.streams = record {
      count = omega arith;
      fewer = λ s g l. sym (e s g) ∙ l;
      unread_is = λ s g l. ap (λ l. l ++ unread s g p.inbox.unread) (i.read_is s g) ∙ sym (append-nil (unread s g p.inbox.unread));
      front_is = λ s g l. refl;
      gone = λ s g l. prefix_is _ (unread s g p.inbox.unread) (ap (λ l. l ++ unread s g p.inbox.unread) (i.read_is s g));
    } in
    let P : Inbox → Type 0 = λ v. Gets p.inbox p.streams [] (λ s g. read s g (act ∷ [])) v q.streams in
    record {
      count = 0;
      more = [];
      got = [];
      causes = i.causes p;
      within = omega arith;
      acked = omega (arith, ap (λ (x : Outbox). x.acked) o);
      items = ap (λ (x : Outbox). x.items) o ∙ sym (append-nil p.outbox.items);
      wrote = λ s g. sym (i.wrote s g);
      whole = λ s g. refl;
      gets = subst P (sym b) same;
      closes = λ s g c. absurd c;
      dies = λ s g d. inl (sym (e s g) ∙ d);
    }

pub quiet_step : (p q : Contents) (act : AssociationAct) → IsQuiet act → q ≡ p → Step p act q
quiet_step p q act i e = record {
  core = core_at p q p act e (core_quiet p p act i refl refl (λ s g. refl));
  queues = queues_same p q (ap (λ (x : Contents). x.packets) e);
}

pub quiet_started : IsQuiet Started
quiet_started = record { wrote = λ s g. refl; read_is = λ s g. refl; causes = λ p. (refl, refl, tt) }

pub quiet_opened : (id h : ℕ) → IsQuiet (Opened id h)
quiet_opened id h = record { wrote = λ s g. refl; read_is = λ s g. refl; causes = λ p. (refl, refl, tt) }

pub quiet_told : (e : AssocEvent) → IsQuiet (Told e)
quiet_told e = record { wrote = λ s g. refl; read_is = λ s g. refl; causes = λ p. (refl, refl, tt) }

pub quiet_timed : (now : ℕ) → IsQuiet (Stirred (Timed now))
quiet_timed now = record { wrote = λ s g. refl; read_is = λ s g. refl; causes = λ p. (refl, refl, tt) }

pub quiet_shut : IsQuiet (Stirred ShutDown)
quiet_shut = record { wrote = λ s g. refl; read_is = λ s g. refl; causes = λ p. (refl, refl, tt) }

pub quiet_other : IsQuiet (Stirred Other)
quiet_other = record { wrote = λ s g. refl; read_is = λ s g. refl; causes = λ p. (refl, refl, tt) }

-- writing
pub core_written : (p : Contents) (id h i : ℕ) (bytes : List ℕ) → h ≡ (stream_of id p.streams).generation → Core p (Wrote id h i bytes) (call.message_written id i bytes p)
unfolding sent
core_written p id h i bytes e = record {
  count = 0;
  more = pieces_of (p.limits.max_payload - 28) id (stream_of id p.streams).generation i bytes;
  got = [];
  causes = (refl, refl, tt);
  within = omega arith;
  acked = omega arith;
  items = refl;
  wrote = λ s g. messages-written (p.limits.max_payload - 28) id (stream_of id p.streams).generation i s g bytes ∙ ap (λ k. written s g (Wrote id k i bytes ∷ [])) (sym e);
  whole = λ s g. left-written (p.limits.max_payload - 28) id (stream_of id p.streams).generation i s g bytes;
  gets = gets_none p.inbox p.streams p.streams (λ s g. refl);
  closes = λ s g c. absurd (close-pieces (length bytes) (p.limits.max_payload - 28) id (stream_of id p.streams).generation i s g bytes c);
  dies = λ s g d. inl d;
}

-- closing
pub gets_ended : (a : Inbox) (x y : List StreamRow) (id h : ℕ) → ((s g : ℕ) → alive y s g ≡ true → alive x s g ≡ true) → alive y id h ≡ false → Gets a x [] no_reads (forgotten id h a) y
gets_ended a x y id h e d =
    let other : (s g : ℕ) → alive y s g ≡ true → id ≡ s → h ≡ g → ⊥ = λ s g l p q. absurd (let k : false ≡ true = sym d ∙ ap (λ k. alive y k h) p ∙ ap (λ k. alive y s k) q ∙ l in cc) in
    record {
      count = omega arith;
      fewer = e;
      unread_is = λ s g l. unread-without s g id h a.unread (other s g l) ∙ sym (append-nil (unread s g a.unread));
      front_is = λ s g l. so_far-without_other s g id h a.parts (other s g l);
      gone = λ s g l. elim (pair_tells id h s g) [
        | inl p ↦ subst (λ (l : List AssociationMessage). IsPrefix l (unread s g a.unread)) (sym (ap (λ k. unread s g (without_messages k h a.unread)) p.1 ∙ ap (λ k. unread s g (without_messages s k a.unread)) p.2 ∙ unread-forgotten s g a.unread)) (prefix_none (unread s g a.unread))
        | inr p ↦ prefix_is (unread s g (without_messages id h a.unread)) (unread s g a.unread) (unread-without s g id h a.unread p.1)
      ];
    }

pub pair_ended : (id h s g : ℕ) → id ≡ s → h ≡ g → ended s g (Ended id h ∷ []) ≡ true
pair_ended id h s g e f = elim (pair_tells id h s g) [ inl k ↦ rw k.0 refl | inr k ↦ absurd (k.1 e f) ]

pub own_close : (id h s g : ℕ) → HasClose s g (close_of id h ∷ []) → ended s g (Ended id h ∷ []) ≡ true
own_close id h s g (inl c) = pair_ended id h s g c.stream_is c.generation_is
own_close id h s g (inr c) = absurd c

pub core_ended : (p : Contents) (now id h : ℕ) → h ≡ (stream_of id p.streams).generation → Core p (Ended id h) (call.stream_ended now id p)
unfolding sent call.stream_ended
core_ended p now id h e =
    let n = (stream_of id p.streams).generation in
    let row : StreamRow = record (stream_of id p.streams) { close = Queued } in
    let w : Shut id row p.streams = record { stream_is = stream_of-stream id p.streams; generation_is = refl; closed = refl } in
    record {
      count = 0;
      more = close_of id n ∷ [];
      got = [];
      causes = (refl, refl, tt);
      within = omega arith;
      acked = omega arith;
      items = refl;
      wrote = λ s g. ap (λ (l : List AssociationMessage). l ++ []) (empty_either (is_pair id n s g));
      whole = λ s g. same_either (is_pair id n s g) [];
      gets = gets_ended p.inbox p.streams (put row p.streams) id n (shut-fewer id row p.streams w) (shut-own id row p.streams w);
      closes = λ s g c. inl (ap (λ k. ended s g (Ended id k ∷ [])) e ∙ own_close id n s g c);
      dies = λ s g d. elim (shut-dies id row p.streams w s g d) [
        | inl k ↦ inl k
        | inr k ↦ inr (inl (ap (λ k. ended s g (Ended id k ∷ [])) e ∙ pair_ended id n s g (sym k.0) (sym k.1)))
      ];
    }

-- reading
pub ppi_number-ppi_of : (n : ℕ) → ppi_number (ppi_of n) ≡ n
ppi_number-ppi_of n =
    elim (eqb_tells n 50) [
      | inl a ↦ rw a.0 (sym a.1)
      | inr a ↦ elim (eqb_tells n 51) [
        | inl b ↦ rw (a.0, b.0) (sym b.1)
        | inr b ↦ elim (eqb_tells n 53) [
          | inl c ↦ rw (a.0, b.0, c.0) (sym c.1)
          | inr c ↦ elim (eqb_tells n 56) [
            | inl d ↦ rw (a.0, b.0, c.0, d.0) (sym d.1)
            | inr d ↦ elim (eqb_tells n 57) [
              | inl e ↦ rw (a.0, b.0, c.0, d.0, e.0) (sym e.1)
              | inr e ↦ rw (a.0, b.0, c.0, d.0, e.0) refl
            ]
          ]
        ]
      ]
    ]

pub read_then : (id h i : ℕ) (bytes : List ℕ) (xs : List Message) (m : Message) (s g : ℕ) → first_message_of id h xs ≡ Some m → i ≡ m.identifier → bytes ≡ m.bytes → read s g (Read id h i bytes ∷ []) ++ unread s g (messages_behind id h xs) ≡ unread s g xs
read_then id h i bytes xs m s g e n b =
    elim (pair_tells id h s g) [
      | inl p ↦
          let here : message i bytes ∷ unread id h (messages_behind id h xs) ≡ unread id h xs = ap (λ k. message k bytes ∷ unread id h (messages_behind id h xs)) n ∙ ap (λ k. message m.identifier k ∷ unread id h (messages_behind id h xs)) b ∙ sym (unread-taken id h xs m e) in
          let there : message i bytes ∷ unread s g (messages_behind id h xs) ≡ unread s g xs =
          subst (λ (k : ℕ). message i bytes ∷ unread s k (messages_behind id h xs) ≡ unread s k xs) p.2 (subst (λ (k : ℕ). message i bytes ∷ unread k h (messages_behind id h xs) ≡ unread k h xs) p.1 here) in
          rw p.0 there
      | inr p ↦ rw p.0 (unread-taken_other s g id h xs p.1)
    ]

pub core_read : (p : Contents) (id h i : ℕ) (bytes : List ℕ) (m : Message) → next_message id p ≡ Some m → i ≡ m.identifier → bytes ≡ m.bytes → h ≡ (stream_of id p.streams).generation → Core p (Read id h i bytes) (taken_out id p)
unfolding taken_out
core_read p id h i bytes m e n b k =
    let each : (s g : ℕ) → read s g (Read id h i bytes ∷ []) ++ unread s g (messages_behind id (stream_of id p.streams).generation p.inbox.unread) ≡ unread s g p.inbox.unread =
    λ s g. ap (λ (j : ℕ). read s g (Read id j i bytes ∷ []) ++ unread s g (messages_behind id (stream_of id p.streams).generation p.inbox.unread)) k
    ∙ read_then id (stream_of id p.streams).generation i bytes p.inbox.unread m s g e n b in
    record {
      count = 0;
      more = [];
      got = [];
      causes = (refl, refl, tt);
      within = omega arith;
      acked = omega arith;
      items = sym (append-nil p.outbox.items);
      wrote = λ s g. refl;
      whole = λ s g. refl;
      gets = record {
        count = omega arith;
        fewer = λ s g l. l;
        unread_is = λ s g l. each s g ∙ sym (append-nil (unread s g p.inbox.unread));
        front_is = λ s g l. refl;
        gone = λ s g l. prefix_is (read s g (Read id h i bytes ∷ []) ++ unread s g (messages_behind id (stream_of id p.streams).generation p.inbox.unread)) (unread s g p.inbox.unread) (each s g);
      };
      closes = λ s g c. absurd c;
      dies = λ s g d. inl d;
    }
