-- What holds of a channel that was not opened in-band: no message that opens a channel was written to the generation of its stream; or the
-- stream is past this.
use Rattle.std.proofs.Common.{◌≡◌, ◌∙◌, ◌⊎◌, inl, inr, ◌==◌, ◌||◌, ◌++◌, ◌∷◌, if◌then◌else◌, cond, not, ℕ, Bool, true, false, true≢false, List, [], Option, Some, Result, Ok, Err, refl, sym, ap, subst, arith}
use Rattle.std.specs.Prelude.{is_some}
use Rattle.rtc_parts.specs.AssociationActs.{AssociationAct, Moved}
use Rattle.rtc_parts.specs.AssociationLaws.{AssociationLaws}
use Rattle.rtc_sctp.specs.Calls.{is_nil, written_ppi}
use Rattle.rtc_sctp_entries.specs.Entries.{config_or_fresh, is_out_of_band, stream_config}
use Rattle.rtc_sctp_entries.specs.declared.stream_entry.StreamEntry.{StreamEntry}
use Rattle.rtc_sctp_entries.specs.declared.stream_entry_state.StreamEntryState.{StreamEntryState}
use Rattle.rtc_sctp_entries.specs.declared.stream_entry_state.StreamEntryState.TheVariants.{Open}
use Rattle.rtc_wire.specs.declared.channel_config.ChannelConfig.{ChannelConfig}
use Rattle.rtc_sctp_laws.specs.GenerationLaws.{GenerationLaws}
use Rattle.rtc_sctp_laws.specs.MuteGenerations.{HasOneOpen, IsMute, IsOpenEntry}
use Rattle.rtc_sctp_laws.specs.PastGenerations.{IsPast}
use Rattle.rtc_sctp_laws.specs.StreamMessages.{StreamMessage, is_dcep, is_dcep_message, stream_message}
use Rattle.rtc_sctp_laws.specs.StreamUses.{EntryUsed, IsDcepInBand, IsWithoutDcep, NoneUsed, OneAtMost, any_dcep, entries_of, is_of_generation, messages_of}
use Rattle.rtc_sctp_laws.proofs.GenerationMessages.{messages-append}
use Rattle.rtc_sctp_laws.proofs.MuteActs.{acts_mute}
use Rattle.rtc_sctp_laws.proofs.OneEntry.{one_is}
use Rattle.rtc_sctp_laws.proofs.PastLemmas.{acts_past}
use Rattle.rtc_peer_core.specs.Meanings.{Meanings, PartsLaws}
use Rattle.rtc_peer_core.specs.declared.rtc_error.RtcError.{RtcError}
use Rattle.rtc_peer_transport.specs.ChannelCalls.{config_under, stream_under}
use Rattle.rtc_peer_transport.specs.declared.event.Event.TheVariants.{ChannelOpen, ChannelData}
use Rattle.rtc_peer_transport.specs.declared.met.Met.TheVariants.{Event as MetEvent}
use Rattle.rtc_peer_transport.specs.declared.output.Output.{Output}
use Rattle.rtc_peer_transport.specs.declared.output.Output.TheVariants as outputs
use Rattle.rtc_peer_transport.specs.declared.polled_peer.PolledPeer.{PolledPeer}
use Rattle.rtc_peer_polling.specs.StreamStages.{channel_over}
use Rattle.rtc_peer_polling.specs.Walk.{PollsPeer}
use Rattle.rtc_peer_laws.specs.Acts.{PollActs}
use Rattle.rtc_peer_laws.specs.ChannelStreams.{AreNumberedChannels, IsMuteStream, IsUsedStream}
use Rattle.rtc_peer_laws.proofs.ChannelsOver.{under_over}
use Rattle.rtc_run_laws.specs.ChannelUses.{ChannelUse, announced_use, generation_under}
use Rattle.rtc_run_laws.specs.OwnOpenings.{HasEntryOf}
use Rattle.rtc_run_laws.proofs.AnnouncedStreams.{uses_answered}
use Rattle.rtc_run_laws.proofs.OpenedThere.{IsOpenedThere, poll_there}
use Rattle.rtc_run_laws.proofs.RowLemmas.{closed_stays}
use Rattle.rtc_run_laws.proofs.ToldEvents.{TellsOpen, open_told}
use Rattle.rtc_run_laws.proofs.TracedPolls.{LastPoll, poll_traced}
use Rattle.rtc_run_laws.proofs.UseLists.{AllUses, all_got, all_kept, all_more}
use Rattle.rtc_run_laws.proofs.UsesPolled.{no_timeout}
use Rattle.rtc_run_laws.proofs.UsesTold.{UsedUnlessClosed}

-- ---- lists of messages

any_none : (xs ys : List StreamMessage) → any_dcep xs ≡ false → any_dcep ys ≡ false → any_dcep (xs ++ ys) ≡ false
any_none [] ys h k = k
any_none (x ∷ xs) ys h k = by (is_dcep_message x) h (λ e. any_none xs ys e k)
  where
    by : (b : Bool) → (b || any_dcep xs) ≡ false → (any_dcep xs ≡ false → any_dcep (xs ++ ys) ≡ false) → (b || any_dcep (xs ++ ys)) ≡ false
    by true e rest = absurd (true≢false e)
    by false e rest = rest e

any_of : (s g : ℕ) (l : List StreamMessage) → any_dcep l ≡ false → any_dcep (messages_of s g l) ≡ false
any_of s g [] h = refl
any_of s g (x ∷ l) h = by (is_dcep_message x) refl h (λ e. any_of s g l e)
  where
    kept : (c : Bool) → is_dcep_message x ≡ false → any_dcep (messages_of s g l) ≡ false → any_dcep (cond c (x ∷ messages_of s g l) (messages_of s g l)) ≡ false
    kept true e k = ap (λ (b : Bool). b || any_dcep (messages_of s g l)) e ∙ k
    kept false e k = k

    by : (b : Bool) → is_dcep_message x ≡ b → (b || any_dcep l) ≡ false → (any_dcep l ≡ false → any_dcep (messages_of s g l) ≡ false)
        → any_dcep (cond (is_of_generation s g x) (x ∷ messages_of s g l) (messages_of s g l)) ≡ false
    by true e k rest = absurd (true≢false k)
    by false e k rest = kept (is_of_generation s g x) e (rest k)

-- what users write is data
data_not : (binary empty : Bool) → is_dcep (written_ppi binary empty) ≡ false
data_not true true = refl
data_not true false = refl
data_not false true = refl
data_not false false = refl

user_not : (stream generation : ℕ) (binary : Bool) (bytes : List ℕ) → any_dcep (stream_message stream generation (written_ppi binary (is_nil bytes)) bytes ∷ []) ≡ false
user_not stream generation binary bytes = ap (λ (b : Bool). b || false) (data_not binary (is_nil bytes))

-- ---- the open entry of a stream

record OpenOne (s : ℕ) (es : List StreamEntry) (P : StreamEntry → Type 0) : Type 0 where
  entry : StreamEntry
  only : entries_of s es ≡ entry ∷ []
  is_open : entry.state ≡ Open
  used : P entry

abbrev AnyOpen : List StreamEntry → Type 0
AnyOpen [] = ⊥
AnyOpen (e ∷ l) = (e.state ≡ Open) ⊎ AnyOpen l

any_open : (s : ℕ) (es : List StreamEntry) → HasEntryOf IsOpenEntry s es → AnyOpen (entries_of s es)
any_open s [] h = absurd h
any_open s (e ∷ es) (inl h) = by (e.id == s) (let same : (e.id == s) ≡ true = grind (arith, h.0) in same)
  where
    by : (b : Bool) → b ≡ true → AnyOpen (if b then e ∷ entries_of s es else entries_of s es)
    by true is = inl h.1
    by false is = absurd (true≢false (sym is))
any_open s (e ∷ es) (inr h) = by (e.id == s) (any_open s es h)
  where
    by : (b : Bool) → AnyOpen (entries_of s es) → AnyOpen (if b then e ∷ entries_of s es else entries_of s es)
    by true k = inr k
    by false k = k

open_one : (s : ℕ) (es : List StreamEntry) (Q : Type 0) (P : StreamEntry → Type 0) → HasEntryOf IsOpenEntry s es → OneAtMost Q P (entries_of s es) → OpenOne s es P
open_one s es Q P h one = by (entries_of s es) refl (any_open s es h) one
  where
    by : (l : List StreamEntry) → entries_of s es ≡ l → AnyOpen l → OneAtMost Q P l → OpenOne s es P
    by [] is any k = absurd any
    by (e ∷ []) is (inl opened) k = record { entry = e; only = is; is_open = opened; used = k }
    by (e ∷ []) is (inr none) k = absurd none
    by (e ∷ f ∷ l) is any k = absurd k

first_is : (x e : StreamEntry) (l l' : List StreamEntry) → x ∷ l ≡ e ∷ l' → x ≡ e
first_is x e l l' h = cc

config_first : (s : ℕ) (es : List StreamEntry) (e : StreamEntry) (l : List StreamEntry) → entries_of s es ≡ e ∷ l → stream_config s es ≡ e.config
config_first s [] e l h = absurd (none_some h)
  where
    none_some : [] ≡ e ∷ l → ⊥
    none_some f = cc
config_first s (x ∷ es) e l h = by (x.id == s) h (λ k. config_first s es e l k)
  where
    by : (b : Bool) → (if b then x ∷ entries_of s es else entries_of s es) ≡ e ∷ l → (entries_of s es ≡ e ∷ l → stream_config s es ≡ e.config)
        → (if b then x.config else stream_config s es) ≡ e.config
    by true k rest = ap (λ (y : StreamEntry). y.config) (first_is x e (entries_of s es) l k)
    by false k rest = rest k

not_false : (b : Bool) → not b ≡ false → b ≡ true
not_false true h = refl
not_false false h = absurd (true≢false h)

some_is : (a b : ℕ) → Some a ≡ Some b → a ≡ b
some_is a b h = cc

module _ {I D S M E X T W N : Type 0} (m : Meanings I D S M E X T W N) where
  -- a stream is past a generation; or no message that opens a channel was written to this, and polls write none
  abbrev pub IsOutIn : (s g : ℕ) (written : List StreamMessage) → PolledPeer I D S M N → Type 0
  IsOutIn s g written p =
      IsPast m.association s g p.core.sctp.association ⊎ ((any_dcep (messages_of s g written) ≡ false) × IsMuteStream m s g p)

  -- so it is of a channel that was not opened in-band
  abbrev pub OutTold : (written : List StreamMessage) → PolledPeer I D S M N → ChannelUse → Type 0
  OutTold written p x = x.in_band ≡ false → (s : ℕ) → x.stream ≡ Some s → IsOutIn s x.generation written p

  module _ (w : AssociationLaws m.association) (v : GenerationLaws m.association) where
    out_more : (s g : ℕ) (p q : PolledPeer I D S M N) (written wrote : List StreamMessage) → (IsPast m.association s g p.core.sctp.association → IsPast m.association s g q.core.sctp.association)
        → (IsMuteStream m s g p → (any_dcep (messages_of s g wrote) ≡ false) × IsMuteStream m s g q) → IsOutIn s g written p → IsOutIn s g (written ++ wrote) q
    out_more s g p q written wrote past mute (inl h) = inl (past h)
    out_more s g p q written wrote past mute (inr h) =
        let k = mute h.1 in
        inr (ap any_dcep (messages-append s g written wrote) ∙ any_none (messages_of s g written) (messages_of s g wrote) h.0 k.0, k.1)

    -- calls but polls
    module _ (p q : PolledPeer I D S M N) (acts : List AssociationAct) (went : Moved m.association p.core.sctp.association acts q.core.sctp.association)
        (holds : (s : ℕ) → HasOneOpen s p.core.sctp.entries → HasOneOpen s q.core.sctp.entries) where
      called_mute : (s g : ℕ) → IsMuteStream m s g p → IsMuteStream m s g q
      called_mute s g h = by (acts_mute m.association w v s g acts p.core.sctp.association q.core.sctp.association p.core.sctp.entries went h)
        where
          by : IsMute m.association s g q.core.sctp.association p.core.sctp.entries → IsMuteStream m s g q
          by (inl past) = inl past
          by (inr k) = inr (k.0, k.1, holds s k.2)

      pub called_out : (written wrote : List StreamMessage) → any_dcep wrote ≡ false → (x : ChannelUse) → OutTold written p x → OutTold (written ++ wrote) q x
      called_out written wrote none x h = λ band s of.
          out_more s x.generation p q written wrote
          (λ k. (acts_past m.association w v s x.generation acts p.core.sctp.association q.core.sctp.association went k).past)
          (λ k. (any_of s x.generation wrote none, called_mute s x.generation k)) (h band s of)

    -- a message of a user
    pub wrote_not : (stream g : ℕ) (binary : Bool) (bytes : List ℕ) (wrote : List StreamMessage)
        → wrote ≡ stream_message stream g (written_ppi binary (is_nil bytes)) bytes ∷ [] → any_dcep wrote ≡ false
    wrote_not stream g binary bytes wrote is = ap any_dcep is ∙ user_not stream g binary bytes

    -- polls
    polled_still : (p : PolledPeer I D S M N) (answer : Result (Output E) RtcError) (q : PolledPeer I D S M N) (acts : PollActs m p answer q) (written : List StreamMessage)
        (x : ChannelUse) → OutTold written p x → OutTold (written ++ acts.wrote) q x
    polled_still p answer q acts written x h = λ band s of.
        out_more s x.generation p q written acts.wrote
        (λ k. (acts_past m.association w v s x.generation acts.did.acts.association p.core.sctp.association q.core.sctp.association acts.did.went.association k).past)
        (λ k. let stays = acts.streams.mute w v s x.generation k in (ap any_dcep stays.none, stays.left)) (h band s of)

    module _ (laws : PartsLaws m) (p q : PolledPeer I D S M N) (id : ℕ) (label : List ℕ) (h : PollsPeer m p (Ok (outputs.Event (ChannelOpen id label))) q)
        (acts : PollActs m p (Ok (outputs.Event (ChannelOpen id label))) q) (numbers : AreNumberedChannels p.core.channels) (written read : List StreamMessage) where
      last_open : LastPoll m p (MetEvent (ChannelOpen id label)) q
      last_open = poll_traced m laws (ChannelOpen id label) p q h refl

      opened : TellsOpen m id last_open.between last_open.streams q
      opened = open_told m last_open.told id label last_open.between last_open.streams q last_open.polled last_open.taken

      over_open : channel_over opened.stream q.core.channels ≡ Some id
      over_open =
          ap (λ (x : PolledPeer I D S M N). channel_over opened.stream x.core.channels) opened.left ∙ opened.over

      there : IsOpenedThere m.association opened.stream q.core.sctp.association q.core.sctp.entries
      there =
          subst (λ (x : PolledPeer I D S M N). IsOpenedThere m.association opened.stream x.core.sctp.association x.core.sctp.entries) (sym opened.left)
          (poll_there m.association w v opened.stream last_open.between.core.sctp opened.label last_open.streams opened.polled)

      used_out : (s : ℕ) → IsOpenedThere m.association s q.core.sctp.association q.core.sctp.entries → is_some (config_or_fresh (stream_config s q.core.sctp.entries)).negotiated ≡ true
          → IsUsedStream m s (written ++ acts.wrote) (read ++ acts.heard) q → IsOutIn s (m.association.generation q.core.sctp.association s) (written ++ acts.wrote) q
      used_out s is out used = by without
        where
          one : OpenOne s q.core.sctp.entries (EntryUsed m.association s q.core.sctp.association (written ++ acts.wrote) (read ++ acts.heard))
          one =
              open_one s q.core.sctp.entries (NoneUsed m.association s q.core.sctp.association (written ++ acts.wrote) (read ++ acts.heard))
              (EntryUsed m.association s q.core.sctp.association (written ++ acts.wrote) (read ++ acts.heard)) is.1 used.used

          band : is_out_of_band one.entry ≡ true
          band =
              ap (λ (o : Option ChannelConfig). is_some (config_or_fresh o).negotiated) (sym (config_first s q.core.sctp.entries one.entry [] one.only)) ∙ out

          without : IsWithoutDcep m.association s q.core.sctp.association (messages_of s (m.association.generation q.core.sctp.association s) (written ++ acts.wrote))
          without =
              subst (λ (b : Bool). IsDcepInBand m.association Open b s q.core.sctp.association (messages_of s (m.association.generation q.core.sctp.association s) (written ++ acts.wrote))) band
              (subst (λ (st : StreamEntryState).
              IsDcepInBand m.association st (is_out_of_band one.entry) s q.core.sctp.association (messages_of s (m.association.generation q.core.sctp.association s) (written ++ acts.wrote)))
              one.is_open one.used.1)

          by : IsWithoutDcep m.association s q.core.sctp.association (messages_of s (m.association.generation q.core.sctp.association s) (written ++ acts.wrote))
              → IsOutIn s (m.association.generation q.core.sctp.association s) (written ++ acts.wrote) q
          by (inr spent) = inl (inr (refl, spent))
          by (inl none) = inr (none, inr (refl, is.0, one_is ⊥ IsOpenEntry (one.entry ∷ []) (entries_of s q.core.sctp.entries) one.only one.is_open))

      opening_out : UsedUnlessClosed m written read p → OutTold (written ++ acts.wrote) q (announced_use m id q)
      opening_out (inl closed) = absurd (no_timeout (ChannelOpen id label) _ (Ok (outputs.Event (ChannelOpen id label))) refl (closed_stays m p (Ok (outputs.Event (ChannelOpen id label))) q closed h).0)
      opening_out (inr uses) = λ band s of.
          let under : stream_under id q.core.channels ≡ Some opened.stream = under_over opened.stream id q.core.channels (acts.numbers numbers).0 over_open in
          let same : opened.stream ≡ s = some_is opened.stream s (sym under ∙ of) in
          let out : is_some (config_or_fresh (config_under (Some s) q.core.sctp)).negotiated ≡ true =
          not_false _ (sym (ap (λ (o : Option ℕ). not (is_some (config_or_fresh (config_under o q.core.sctp)).negotiated)) of) ∙ band) in
          subst (λ (o : Option ℕ). IsOutIn s (generation_under m o q) (written ++ acts.wrote) q) (sym of)
          (used_out s (subst (λ (n : ℕ). IsOpenedThere m.association n q.core.sctp.association q.core.sctp.entries) same there) out (acts.streams.uses w v s written read (uses s)))

    pub out_polled : PartsLaws m → (p : PolledPeer I D S M N) (answer : Result (Output E) RtcError) (q : PolledPeer I D S M N) (h : PollsPeer m p answer q)
        (acts : PollActs m p answer q) → AreNumberedChannels p.core.channels → (written read : List StreamMessage) → UsedUnlessClosed m written read p
        → (uses : List ChannelUse) → AllUses (OutTold written p) uses → AllUses (OutTold (written ++ acts.wrote) q) (uses_answered m answer q uses)
    out_polled laws p (Ok (outputs.Event (ChannelOpen id label))) q h acts numbers written read used uses all =
        all_more (OutTold (written ++ acts.wrote) q) uses (announced_use m id q)
        (all_kept (OutTold written p) (OutTold (written ++ acts.wrote) q) uses (λ x k. polled_still p _ q acts written x k) all)
        (opening_out laws p q id label h acts numbers written read used)
    out_polled laws p (Ok (outputs.Event (ChannelData message))) q h acts numbers written read used uses all =
        all_got (OutTold written p) (OutTold (written ++ acts.wrote) q) message.id (message.binary, message.bytes) uses
        (λ x e k. polled_still p _ q acts written x k) (λ x e k. polled_still p _ q acts written x k) all
    out_polled laws p (Ok (outputs.Event event)) q h acts numbers written read used uses all =
        all_kept (OutTold written p) (OutTold (written ++ acts.wrote) q) uses (λ x k. polled_still p _ q acts written x k) all
    out_polled laws p (Ok (outputs.Transmit transmit)) q h acts numbers written read used uses all =
        all_kept (OutTold written p) (OutTold (written ++ acts.wrote) q) uses (λ x k. polled_still p _ q acts written x k) all
    out_polled laws p (Ok (outputs.Timeout moment)) q h acts numbers written read used uses all =
        all_kept (OutTold written p) (OutTold (written ++ acts.wrote) q) uses (λ x k. polled_still p _ q acts written x k) all
    out_polled laws p (Err error) q h acts numbers written read used uses all =
        all_kept (OutTold written p) (OutTold (written ++ acts.wrote) q) uses (λ x k. polled_still p _ q acts written x k) all
