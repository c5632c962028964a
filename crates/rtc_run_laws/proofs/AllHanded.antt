-- Where both channels stay open, all was acknowledged and nothing stands unread, all that was sent was got.
use Rattle.std.proofs.Common.{◌≡◌, ◌∙◌, ◌++◌, ◌∷◌, ◌==◌, ◌&&◌, ◌||◌, if◌then◌else◌, ℕ, Bool, true, false, true≢false, List, [], append-nil, Some, None, inl, inr, refl, sym, ap, subst, arith}
use Rattle.std.specs.List.{list_any}
use Rattle.std.proofs.lemmas.Bool.{eqb-true}
use Rattle.rtc_parts.specs.AssociationActs.{AssociationAct, Ended, Moved}
use Rattle.rtc_parts.specs.AssociationLaws.{AssociationLaws}
use Rattle.rtc_parts.specs.AssociationMeaning.{AssociationMeaning}
use Rattle.rtc_parts.specs.AssociationWords.{AssociationMessage, ended, read, written}
use Rattle.rtc_parts.specs.Among.{Member}
use Rattle.rtc_assoc.specs.Unread.{unread}
use Rattle.rtc_assoc_state.proofs.PlainLaws.{plain_laws}
use Rattle.rtc_assoc_state.specs.Contents.{fresh_contents, has_unread}
use Rattle.rtc_assoc_state.specs.Outbox.{has_unacknowledged}
use Rattle.rtc_assoc_state.specs.Inbox.{is_message_of}
use Rattle.rtc_assoc_state.specs.PlainMeaning.{plain_meaning}
use Rattle.rtc_assoc_state.specs.declared.message.Message.{Message}
use Rattle.rtc_parts.specs.Draws.{Draws}
use Rattle.rtc_sctp_laws.specs.StreamMessages.{StreamMessage}
use Rattle.rtc_sctp_laws.specs.GenerationLaws.{GenerationLaws}
use Rattle.rtc_sctp_laws.specs.StreamUses.{is_spent_stream}
use Rattle.rtc_sctp_laws.specs.Contents.{contents_by, contents_of}
use Rattle.rtc_sctp_laws.specs.PastGenerations.{IsPast}
use Rattle.rtc_sctp_laws.proofs.PastLemmas.{acts_past}
use Rattle.rtc_sctp_laws.proofs.PlainGenerations.{plain_generations}
use Rattle.rtc_peer_transport.specs.ChannelCalls.{open_stream_under}
use Rattle.rtc_peer_laws.specs.PeerActs.{PeerActs}
use Rattle.rtc_peer_laws.proofs.ChannelsOver.{none_under}
use Rattle.rtc_run_laws.specs.PlainPairs.{PlainPolled, plain_over}
use Rattle.rtc_run_laws.specs.ChannelUses.{ChannelUse}
use Rattle.rtc_run_laws.specs.OpenUses.{AreJoinedUses, StaysOpen}
use Rattle.rtc_run_laws.proofs.GotAndSent.{both_carry}
use Rattle.rtc_run_laws.proofs.StandingSides.{SideStood}
use Rattle.rtc_run_laws.proofs.OpenStreams.{open_free, open_placed}
use Rattle.rtc_run_laws.proofs.UseLists.{all_member, prefix_same}
use Rattle.rtc_run_laws.proofs.UsesTold.{HasGone, InBandTold, IsOver, Lives, StandsSo, UseStands, UseTold, opened_of}

module _ {S : Type 0} (m : AssociationMeaning S) (w : AssociationLaws m) (v : GenerationLaws m) where
  spent_by : (s : ℕ) (a : S) → m.closed_here a s ≡ true → is_spent_stream m s a ≡ true
  spent_by s a h = by (m.closed_here a s) h
    where
      by : (b : Bool) → b ≡ true → (b || (m.closing a || m.closed a)) ≡ true
      by true e = refl
      by false e = absurd (true≢false (sym e))

  -- a generation that this end closed is past
  ended_past : (s g : ℕ) (acts : List AssociationAct) (a b : S) → Moved m a acts b → ended s g acts ≡ true → IsPast m s g b
  ended_past s g [] a b h e = absurd (true≢false (sym e))
  ended_past s g (Ended t k ∷ acts) a b h e = by ((t == s) && (k == g)) refl e (ended_past s g acts h.0 b h.1.1)
    where
      both : (c d : Bool) → (c && d) ≡ true → (c ≡ true) × (d ≡ true)
      both true true f = (refl, refl)
      both true false f = absurd (true≢false (sym f))
      both false d f = absurd (true≢false (sym f))

      here : t ≡ s → k ≡ g → IsPast m s g h.0
      here same own =
          let closed : m.closed_here h.0 s ≡ true = ap (m.closed_here h.0) (sym same) ∙ v.ends t a h.0 h.1.0.0 in
          let kept : m.generation h.0 s ≡ m.generation a s = (v.acts_keep s a h.0 (Ended t k) refl h.1.0).generation_is in
          inr (kept ∙ ap (m.generation a) (sym same) ∙ sym h.1.0.1 ∙ own, spent_by s h.0 closed)

      by : (c : Bool) → ((t == s) && (k == g)) ≡ c → (c || ended s g acts) ≡ true → (ended s g acts ≡ true → IsPast m s g b) → IsPast m s g b
      by true f l rest =
          let same = both (t == s) (k == g) f in
          (acts_past m w v s g acts h.0 b h.1.1 (here (eqb-true t s same.0) (eqb-true k g same.1))).past
      by false f l rest = rest l
  ended_past s g (act ∷ acts) a b h e = ended_past s g acts h.0 b h.1.1 e

  pub not_past : (s g : ℕ) (a : S) → m.generation a s ≡ g → is_spent_stream m s a ≡ false → IsPast m s g a → ⊥
  not_past s g a own free (inl later) = omega (arith, own, later)
  not_past s g a own free (inr past) = true≢false (sym past.1 ∙ free)

  pub not_ended : (s g : ℕ) (acts : List AssociationAct) (a b : S) → Moved m a acts b → m.generation b s ≡ g → is_spent_stream m s b ≡ false
      → ended s g acts ≡ false
  not_ended s g acts a b h own free = by (ended s g acts) refl
    where
      by : (c : Bool) → ended s g acts ≡ c → c ≡ false
      by true e = absurd (not_past s g b own free (ended_past s g acts a b h e))
      by false e = refl

pub none_unread : (s g : ℕ) (l : List Message) → list_any (is_message_of s g) l ≡ false → unread s g l ≡ []
none_unread s g [] h = refl
none_unread s g (x ∷ l) h = by (is_message_of s g x) h (none_unread s g l)
  where
    by : (b : Bool) → (b || list_any (is_message_of s g) l) ≡ false → (list_any (is_message_of s g) l ≡ false → unread s g l ≡ [])
        → (if b then record { identifier = x.identifier; bytes = x.bytes } ∷ unread s g l else unread s g l) ≡ []
    by true e rest = absurd (true≢false e)
    by false e rest = rest e

no_some : (n : ℕ) → None ≡ Some n → ⊥
no_some n h = cc

some_is : (n k : ℕ) → Some n ≡ Some k → n ≡ k
some_is n k h = cc

module _ {N : Type 0} (draws : Draws N) where
  -- at a peer where the channel stays open, all that was read behind its opening was told
  all_told : (p : PlainPolled N) (c s g stream : ℕ) (got : List (Bool × List ℕ)) (rest : List StreamMessage)
      → open_stream_under c p ≡ Some stream → StandsSo (plain_over draws) c s g got rest p → got ≡ contents_of rest
  all_told p c s g stream got rest there (Lives live is) = is
  all_told p c s g stream got rest there (HasGone gone past k) =
      absurd (no_some stream (sym (none_under c p.core.channels.rows gone.1) ∙ open_placed c stream p there))
  all_told p c s g stream got rest there (IsOver closed k) = absurd (open_free c stream p there closed)

  -- a channel that is open was not rolled back
  pub open_told : (written read : List StreamMessage) (p : PlainPolled N) (x : ChannelUse) (stream : ℕ) → open_stream_under x.channel p ≡ Some stream
      → UseStands (plain_over draws) written read p x → UseTold (plain_over draws) written read p x.channel x.stream x.generation x.sent x.got
  open_told written read p x stream there u = by x.rolled_back refl
    where
      by : (b : Bool) → x.rolled_back ≡ b → UseTold (plain_over draws) written read p x.channel x.stream x.generation x.sent x.got
      by true e =
          absurd
          (no_some stream
          (sym (none_under x.channel p.core.channels.rows (u.undone e).gone.1) ∙ open_placed x.channel stream p there))
      by false e = u.kept e

  -- neither end closed the generation
  pub side_unended : (a : PeerActs) (us : List ChannelUse) (p : PlainPolled N) (x : ChannelUse) → SideStood draws a us p → (h : StaysOpen (plain_over draws) x p)
      → ended h.stream x.generation a.association ≡ false
  side_unended a us p x side h =
      not_ended plain_meaning plain_laws plain_generations h.stream x.generation a.association fresh_contents p.core.sctp.association side.went h.generation h.free

  module _ (a b : PeerActs) (us vs : List ChannelUse) (p q : PlainPolled N) (x : SideStood draws a us p) (y : SideStood draws b vs q) (k l : ChannelUse)
      (h : AreJoinedUses (plain_over draws) k p l q) where
    same_stream : h.writer.stream ≡ h.reader.stream
    same_stream = some_is h.writer.stream h.reader.stream (sym h.writer.of ∙ sym h.stream_is ∙ h.reader.of)

    -- all that was written was read
    all_read : (ended h.reader.stream k.generation b.association ≡ false → ended h.reader.stream k.generation a.association ≡ false
        → has_unacknowledged h.reader.stream q.core.sctp.association.outbox.items ≡ false
        → read h.reader.stream k.generation a.association ++ unread h.reader.stream k.generation p.core.sctp.association.inbox.unread
        ≡ written h.reader.stream k.generation b.association)
        → has_unacknowledged h.writer.stream q.core.sctp.association.outbox.items ≡ false
        → has_unread p.core.sctp.association h.reader.stream k.generation ≡ false
        → read h.reader.stream k.generation a.association ≡ written h.reader.stream k.generation b.association
    all_read all acknowledged heard =
        sym (append-nil (read h.reader.stream k.generation a.association))
        ∙ ap (λ (r : List AssociationMessage). read h.reader.stream k.generation a.association ++ r)
        (sym (none_unread h.reader.stream k.generation p.core.sctp.association.inbox.unread heard))
        ∙ all
        (ap (λ (n : ℕ). ended n k.generation b.association) (sym same_stream)
        ∙ ap (λ (n : ℕ). ended h.writer.stream n b.association) h.generation_is
        ∙ side_unended b vs q l y h.writer)
        (side_unended a us p k x h.reader)
        (ap (λ (n : ℕ). has_unacknowledged n q.core.sctp.association.outbox.items) (sym same_stream) ∙ acknowledged)

    pub all_got : UseTold (plain_over draws) x.written x.read p k.channel k.stream k.generation k.sent k.got
        → UseTold (plain_over draws) y.written y.read q l.channel l.stream k.generation l.sent l.got
        → read h.reader.stream k.generation a.association ≡ written h.reader.stream k.generation b.association → k.got ≡ l.sent
    all_got t u same =
        let carry =
        both_carry draws h.reader.stream k.generation a b us vs p q x y l.channel k.stream l.stream k.got l.sent l.got
        (opened_of (plain_over draws) x.written x.read p k.channel k.stream k.generation k.sent k.got t) u
        (some_is t.stream h.reader.stream (sym t.stream_is ∙ h.reader.of)) (some_is u.stream h.reader.stream (sym u.stream_is ∙ sym h.stream_is ∙ h.reader.of))
        (prefix_same (read h.reader.stream k.generation a.association) (written h.reader.stream k.generation b.association) same) in
        all_told p k.channel t.stream k.generation h.reader.stream k.got t.rest h.reader.there t.stands
        ∙ sym carry.0
        ∙ ap contents_by same
        ∙ carry.1

    pub all_handed : Member k us → Member l vs
        → (ended h.reader.stream k.generation b.association ≡ false → ended h.reader.stream k.generation a.association ≡ false
        → has_unacknowledged h.reader.stream q.core.sctp.association.outbox.items ≡ false
        → read h.reader.stream k.generation a.association ++ unread h.reader.stream k.generation p.core.sctp.association.inbox.unread
        ≡ written h.reader.stream k.generation b.association)
        → has_unacknowledged h.writer.stream q.core.sctp.association.outbox.items ≡ false
        → has_unread p.core.sctp.association h.reader.stream k.generation ≡ false → k.got ≡ l.sent
    all_handed mine theirs all acknowledged heard =
        all_got
        (open_told x.written x.read p k h.reader.stream h.reader.there
        (all_member (InBandTold (plain_over draws) x.written x.read p) us k x.told.each mine h.reader_in_band))
        (subst (λ (n : ℕ). UseTold (plain_over draws) y.written y.read q l.channel l.stream n l.sent l.got) (sym h.generation_is)
        (open_told y.written y.read q l h.writer.stream h.writer.there
        (all_member (InBandTold (plain_over draws) y.written y.read q) vs l y.told.each theirs h.writer_in_band)))
        (all_read all acknowledged heard)
