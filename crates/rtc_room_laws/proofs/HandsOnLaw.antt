-- That the hub hands on what it hears, in each run of a room.
use Rattle.std.proofs.Common.{◌≡◌, ◌≢◌, ◌⊎◌, ◌∙◌, ◌++◌, inl, inr, ℕ, Bool, true, false, List, [], ◌∷◌, Option, Some, None, refl, sym, ap, subst, append-nil}
use Rattle.std.specs.Prelude.{slice_get}
use Rattle.std.specs.declared.alloc.Global.{Global}
use Rattle.rtc_parts.specs.Among.{Member}
use Rattle.rtc_plain_ice.specs.Messages.{is_ice_message}
use Rattle.rtc_plain_media.specs.declared.plain_media_event.PlainMediaEvent.{PlainMediaEvent}
use Rattle.rtc_assoc.specs.Unread.{IsPrefix}
use Rattle.rtc_assoc_state.specs.Outbox.{has_unacknowledged}
use Rattle.rtc_run_history.specs.Native.{are_native}
use Rattle.rtc_run_history.specs.Past.{Entry, steps_of}
use Rattle.rtc_run_history.specs.Runs.{Reached}
use Rattle.rtc_run_history.specs.declared.side.Side.TheVariants.{Left, Right}
use Rattle.rtc_run_laws.specs.ChannelUses.{ChannelUse}
use Rattle.rtc_run_laws.specs.InBandSteps.{AreInBandStepsAt}
use Rattle.rtc_run_laws.specs.NewPairs.{IsNewPair}
use Rattle.rtc_run_laws.specs.SentMessages.{sent_over}
use Rattle.rtc_run_laws.specs.SideDrains.{IsSideDrained}
use Rattle.rtc_run_laws.specs.ToldMessages.{told_over}
use Rattle.rtc_run_laws.specs.Unannounced.{HaveNumbersLeft, IsAnnouncedOver}
use Rattle.rtc_run_laws.specs.UsesOfRuns.{reached_by, uses_of}
use Rattle.rtc_run_laws.proofs.BandedUses.{IsInBandUse}
use Rattle.rtc_run_laws.proofs.GotStretches.{GotStretch, pair_stretch}
use Rattle.rtc_run_laws.proofs.OutPairs.{pair_out}
use Rattle.rtc_run_laws.proofs.OwnBandRuns.{run_own_in_band}
use Rattle.rtc_run_laws.proofs.RestedRuns.{run_delivered_over}
use Rattle.rtc_run_laws.proofs.RunsTold.{PairTold, new_pair_told, pair_handed_over, pair_whole, reached_told}
use Rattle.rtc_run_laws.proofs.SilentRuns.{run_got}
use Rattle.rtc_run_laws.proofs.UseLists.{all_member, prefix_through}
use Rattle.rtc_run_laws.proofs.UsesTold.{InBandTold, use_opened}
use Rattle.rtc_run.specs.ProgramPair.{PlainPairState, counting, plain_parts}
use Rattle.rtc_room_laws.specs.Members.{MemberState}
use Rattle.rtc_room_laws.specs.RoomRuns.{MemberRan, RoomRuns, RoomWent, line_along, performed_of}
use Rattle.rtc_room_laws.specs.RoomSteps.{RoomEntry, RoomState}
use Rattle.rtc_room_laws.specs.declared.room_reply.RoomReply.{RoomReply}
use Rattle.rtc_room_laws.specs.declared.room_step.RoomStep.{RoomStep}
use Rattle.rtc_room_laws.specs.RoomHandsOn.{AreLineEndsOf, GetsOf, IsHeardOf, IsHubEndOf, IsStretch, KeepsLine, RoomHandsOn, first_use, heard_for, sent_at, uses_at}
use Rattle.rtc_room_laws.specs.ItemMessages.{LineMessage, messages_from}
use Rattle.rtc_room_laws.proofs.DueItems.{IsDue}
use Rattle.rtc_room_laws.proofs.FirstUses.{first_blank, first_found, first_member}
use Rattle.rtc_room_laws.proofs.HeardStretches.{room_stretch, two_rooms}
use Rattle.rtc_room_laws.proofs.ItemTexts.{messages_by, messages_from-append}
use Rattle.rtc_room_laws.proofs.LastingMembers.{room_last}
use Rattle.rtc_room_laws.proofs.LineBands.{line_banded}
use Rattle.rtc_room_laws.proofs.LineMoves.{Stands}
use Rattle.rtc_room_laws.proofs.NativeMembers.{numbered_is_new, own_native, room_own}
use Rattle.rtc_room_laws.proofs.RolledLines.{sent_over_is}
use Rattle.rtc_room_laws.proofs.RoomsStand.{heard_of, room_due, room_line}
use Rattle.rtc_room_laws.proofs.Stretches.{last_none, stretch_none, stretch_through}
use Rattle.rtc_room_laws.proofs.TakenMessages.{taken_messages}
use Rattle.rtc_room_laws.proofs.Talks.{blank, blanks_of}

-- ---- lists

from_prefix : (s : ℕ) (got sent : List LineMessage) → IsPrefix got sent → IsPrefix (messages_from s got) (messages_from s sent)
from_prefix s got sent h = record {
  rest = messages_from s h.rest;
  is = sym (messages_from-append s got h.rest) ∙ ap (messages_from s) h.is;
}

prefix_none : {A : Type 0} (xs ys : List A) → IsPrefix xs ys → ys ≡ [] → xs ≡ []
prefix_none [] ys h none = refl
prefix_none (x ∷ xs) ys h none = absurd (no_cons x (xs ++ h.rest) (h.is ∙ none))
  where
    no_cons : {A : Type 0} (y : A) (l : List A) → y ∷ l ≡ [] → ⊥
    no_cons y l e = cc

some_is : {A : Type 0} (x y : A) → Some x ≡ Some y → x ≡ y
some_is x y e = cc

-- ---- the line of a member, in the run of its pair

module _ (alloc : Global) (past : List RoomEntry) (room : RoomState) (went : RoomWent alloc past room) (k : ℕ) (member : MemberState)
    (there : slice_get room.members k ≡ Some member) (pair : PlainPairState) (ran : MemberRan alloc k past pair)
    (along : member.line ≡ line_along ran.start (performed_of k past) pair ran.went) where
  abbrev pub own : List (Entry PlainMediaEvent)
  own = performed_of k past

  abbrev pub reached : Reached plain_parts is_ice_message ran.start own pair
  reached = reached_by plain_parts is_ice_message ran.start own pair ran.went

  native : are_native (steps_of own) ≡ true
  native = own_native own (room_own alloc k past room went)

  told : PairTold counting pair (λ at. uses_of plain_parts is_ice_message ran.start at own pair reached)
      (λ at. sent_over plain_parts is_ice_message ran.start at own pair reached) (λ at. told_over plain_parts is_ice_message ran.start at own pair reached)
  told =
      reached_told counting is_ice_message ran.start own pair native reached
      (new_pair_told counting ran.start (numbered_is_new alloc k ran.start ran.made.numbered))

  new : IsNewPair counting ran.start
  new = numbered_is_new alloc k ran.start ran.made.numbered

  -- without a line nothing was heard
  pub none_heard : member.line ≡ None → heard_of alloc k past room went ≡ []
  none_heard none =
      (subst (λ (o : Option ℕ). Stands o own (heard_of alloc k past room went)) none (room_line alloc k past room went member there)).1

  -- the channel of a line was announced
  pub line_found : (channel : ℕ) → member.line ≡ Some channel
      → (x : ChannelUse) × (first_use channel (uses_at alloc k past pair ran Left) ≡ Some x)
  line_found channel is =
      let stands : Stands (Some channel) own (heard_of alloc k past room went) =
      subst (λ (o : Option ℕ). Stands o own (heard_of alloc k past room went)) is (room_line alloc k past room went member there) in
      first_found channel (uses_at alloc k past pair ran Left) stands.first
      (ap (first_use channel) (blanks_of ran.start own pair reached) ∙ stands.is_first)

  module _ (x : ChannelUse) (hub : IsHubEndOf alloc k past pair ran member.line x) where
    stands : Stands (Some hub.channel) own (heard_of alloc k past room went)
    stands =
        subst (λ (o : Option ℕ). Stands o own (heard_of alloc k past room went)) hub.line_is (room_line alloc k past room went member there)

    x_there : Member x (uses_at alloc k past pair ran Left)
    x_there = first_member hub.channel (uses_at alloc k past pair ran Left) x hub.first

    x_band : x.in_band ≡ true
    x_band =
        line_banded ran.start new hub.channel own pair native (room_last alloc k past room went) ran.went (sym along ∙ hub.line_is) x hub.first

    -- what was taken is all that was sent to its stream
    pub over_taken : (stream : ℕ) → x.stream ≡ Some stream
        → sent_over plain_parts is_ice_message ran.start Left own pair reached stream x.generation ≡ taken_messages own
    over_taken stream of = sent_over_is ran.start new hub.channel own pair native reached x stands.writes hub.first x_band stream of

    -- and what was heard is the end of what it got
    pub got_heard : (before : List LineMessage) × (x.got ≡ before ++ heard_of alloc k past room went)
    got_heard =
        let same : Some stands.first ≡ Some (blank x) =
        sym stands.is_first
        ∙ ap (first_use hub.channel) (sym (blanks_of ran.start own pair reached))
        ∙ first_blank hub.channel (uses_at alloc k past pair ran Left) x hub.first in
        (stands.before, ap (λ (z : ChannelUse). z.got) (sym (some_is stands.first (blank x) same)) ∙ stands.got_is)

    -- its stream
    pub has_stream : (stream : ℕ) × (x.stream ≡ Some stream)
    has_stream =
        let side = told.left.side in
        let opened =
        use_opened plain_parts side.written side.read pair.left x
        (all_member (InBandTold plain_parts side.written side.read pair.left) (uses_at alloc k past pair ran Left) x side.told.each x_there x_band) in
        (opened.stream, opened.stream_is)

    -- what the hub got over it is a stretch of what the member wrote
    pub got_stretch : (stream : ℕ) → x.stream ≡ Some stream → GotStretch x.got (sent_at alloc k past pair ran Right stream x.generation)
    got_stretch stream of =
        pair_stretch counting pair (λ at. uses_of plain_parts is_ice_message ran.start at own pair reached)
        (λ at. sent_over plain_parts is_ice_message ran.start at own pair reached) (λ at. told_over plain_parts is_ice_message ran.start at own pair reached)
        told Left x x_there x_band stream of

    -- it got nothing, or the member announced a channel
    pub got_announced : HaveNumbersLeft pair → (stream : ℕ) → x.stream ≡ Some stream
        → (x.got ≡ []) ⊎ IsAnnouncedOver stream x.generation (uses_at alloc k past pair ran Right)
    got_announced numbers stream of =
        run_got counting is_ice_message ran.start new own pair native reached numbers Left x x_there x_band stream of

  module _ (x y : ChannelUse) (line : AreLineEndsOf alloc k past pair ran member.line x y) where
    -- the member's end was opened in-band, if no step of its own peer added another channel
    in_band : AreInBandStepsAt Right (steps_of own) ⊎ (y.in_band ≡ true) → y.in_band ≡ true
    in_band (inl steps) =
        all_member IsInBandUse (uses_at alloc k past pair ran Right) y
        (run_own_in_band counting is_ice_message ran.start new ran.made.numbered.sdps Right own pair native reached steps) line.other
    in_band (inr band) = band

    -- else its stream is past the generation
    y_band : y.in_band ≡ true
    y_band = by y.in_band refl
      where
        by : (b : Bool) → y.in_band ≡ b → y.in_band ≡ true
        by true e = e
        by false e =
            let stream = has_stream x line.hub_end in
            in_band
            (line.other_in_band
            (pair_out counting pair (λ at. uses_of plain_parts is_ice_message ran.start at own pair reached)
            (λ at. sent_over plain_parts is_ice_message ran.start at own pair reached) (λ at. told_over plain_parts is_ice_message ran.start at own pair reached)
            told Left x y (x_there x line.hub_end) (x_band x line.hub_end) line.other e stream.0 stream.1 (line.stream_is ∙ stream.1) line.generation_is))

    -- what the member got is a prefix of what was taken
    pub got_prefix : IsPrefix y.got (taken_messages own)
    got_prefix =
        let stream = has_stream x line.hub_end in
        let over : IsPrefix y.got (sent_over plain_parts is_ice_message ran.start Left own pair reached stream.0 y.generation) =
        pair_handed_over counting pair (λ at. uses_of plain_parts is_ice_message ran.start at own pair reached)
        (λ at. sent_over plain_parts is_ice_message ran.start at own pair reached) (λ at. told_over plain_parts is_ice_message ran.start at own pair reached)
        Right told y x line.other (x_there x line.hub_end) y_band (x_band x line.hub_end) stream.0 (line.stream_is ∙ stream.1) stream.1 line.generation_is in
        subst (λ (l : List LineMessage). IsPrefix y.got l)
        (ap (sent_over plain_parts is_ice_message ran.start Left own pair reached stream.0) line.generation_is
        ∙ over_taken x line.hub_end stream.0 stream.1)
        over

    -- and all of it once all was delivered
    pub got_all : IsSideDrained Right own → (h : KeepsLine y pair.right x pair.left)
        → has_unacknowledged h.writer.stream pair.left.core.sctp.association.outbox.items ≡ false → y.got ≡ taken_messages own
    got_all drained keeps acknowledged =
        run_delivered_over counting is_ice_message ran.start new own pair native reached Right y x line.other (x_there x line.hub_end) drained
        (record {
          reader_in_band = y_band;
          writer_in_band = x_band x line.hub_end;
          reader = keeps.reader;
          there = keeps.there;
          writer = keeps.writer;
          stream_is = line.stream_is;
          generation_is = line.generation_is;
        })
        acknowledged
        ∙ ap (sent_over plain_parts is_ice_message ran.start Left own pair reached keeps.reader.stream) line.generation_is
        ∙ over_taken x line.hub_end keeps.reader.stream (sym line.stream_is ∙ keeps.reader.of)

    -- what the member wrote is what was sent over its end, unless that was rolled back
    pub wrote_over : y.rolled_back ≡ false → (stream : ℕ) → x.stream ≡ Some stream → sent_at alloc k past pair ran Right stream x.generation ≡ y.sent
    wrote_over left stream of =
        ap (sent_over plain_parts is_ice_message ran.start Right own pair reached stream) (sym line.generation_is)
        ∙ pair_whole counting pair (λ at. uses_of plain_parts is_ice_message ran.start at own pair reached)
        (λ at. sent_over plain_parts is_ice_message ran.start at own pair reached) (λ at. told_over plain_parts is_ice_message ran.start at own pair reached)
        Right told y line.other y_band left stream (line.stream_is ∙ of)

-- ---- the theorem

module _ (alloc : Global) (past : List RoomEntry) (room : RoomState) (went : RoomWent alloc past room) where
  gets_of : (s m : ℕ) → s ≢ m → (listener : MemberState) → slice_get room.members m ≡ Some listener → (pair : PlainPairState) (ran : MemberRan alloc m past pair)
      → listener.line ≡ line_along ran.start (performed_of m past) pair ran.went → GetsOf alloc past room went s m listener pair ran
  gets_of s m apart listener there pair ran along = record {
    prefix = λ x y line. prefix x y line;
    apart = λ sender sender_there rooms x y line.
        prefix_none (messages_from s y.got) (heard_for alloc s m past room went) (prefix x y line)
        (two_rooms alloc s m past room went sender listener sender_there there rooms);
    all = λ here in_room none x y line drained delivering acknowledged.
        ap (messages_from s) (got_all alloc past room went m listener there pair ran along x y line drained delivering acknowledged)
        ∙ sym
        (due.whole in_room here
        ∙ ap (λ l. messages_from s (taken_messages (performed_of m past)) ++ messages_by s l) none
        ∙ append-nil (messages_from s (taken_messages (performed_of m past))));
  }
    where
      due : IsDue s listener (taken_messages (performed_of m past)) (heard_for alloc s m past room went)
      due = room_due alloc s m apart past room went listener there

      prefix : (x y : ChannelUse) → AreLineEndsOf alloc m past pair ran listener.line x y
          → IsPrefix (messages_from s y.got) (heard_for alloc s m past room went)
      prefix x y line =
          prefix_through (messages_from s y.got) (messages_from s (taken_messages (performed_of m past))) (heard_for alloc s m past room went)
          (from_prefix s y.got (taken_messages (performed_of m past)) (got_prefix alloc past room went m listener there pair ran along x y line)) due.prefix

  heard_of_is : (s m : ℕ) (speaker : MemberState) → slice_get room.members s ≡ Some speaker → (pair : PlainPairState) (ran : MemberRan alloc s past pair)
      → speaker.line ≡ line_along ran.start (performed_of s past) pair ran.went → IsHeardOf alloc past room went s m speaker pair ran
  heard_of_is s m speaker there pair ran along = record {
    none = λ line. unheard (none_heard alloc past room went s speaker there pair ran along line);
    found = λ channel line. line_found alloc past room went s speaker there pair ran along channel line;
    stretch = λ x hub.
        let stream = has_stream alloc past room went s speaker there pair ran along x hub in
        record { stream = stream.0; stream_is = stream.1; stretch = stretch x hub stream.0 stream.1 };
    silent = λ numbers x hub stream of. silent x hub (got_announced alloc past room went s speaker there pair ran along x hub numbers stream of);
    over = λ x y line left.
        let stream = has_stream alloc past room went s speaker there pair ran along x line.hub_end in
        subst (λ (l : List LineMessage). IsStretch (heard_for alloc s m past room went) l)
        (wrote_over alloc past room went s speaker there pair ran along x y line left stream.0 stream.1) (stretch x line.hub_end stream.0 stream.1);
  }
    where
      heard : IsStretch (heard_for alloc s m past room went) (heard_of alloc s past room went)
      heard = (room_stretch alloc s m past room went).stretch

      unheard : heard_of alloc s past room went ≡ [] → heard_for alloc s m past room went ≡ []
      unheard none = stretch_none (heard_for alloc s m past room went) (heard_of alloc s past room went) heard none

      stretch : (x : ChannelUse) → IsHubEndOf alloc s past pair ran speaker.line x → (stream : ℕ) → x.stream ≡ Some stream
          → IsStretch (heard_for alloc s m past room went) (sent_at alloc s past pair ran Right stream x.generation)
      stretch x hub stream of =
          let got = got_heard alloc past room went s speaker there pair ran along x hub in
          stretch_through (heard_for alloc s m past room went) (heard_of alloc s past room went) x.got (sent_at alloc s past pair ran Right stream x.generation) got.0
          heard got.1 (got_stretch alloc past room went s speaker there pair ran along x hub stream of)

      silent : {A : Type 0} (x : ChannelUse) → IsHubEndOf alloc s past pair ran speaker.line x → (x.got ≡ []) ⊎ A → (heard_for alloc s m past room went ≡ []) ⊎ A
      silent x hub (inl none) =
          let got = got_heard alloc past room went s speaker there pair ran along x hub in
          inl (unheard (last_none got.0 (heard_of alloc s past room went) (sym got.1 ∙ none)))
      silent x hub (inr announced) = inr announced

pub hands_on : (alloc : Global) (steps : List RoomStep) (replies : List RoomReply) (pairs : List PlainPairState) (run : RoomRuns alloc steps replies pairs)
    → RoomHandsOn alloc steps replies pairs run
hands_on alloc steps replies pairs run = record {
  gets = λ s m apart listener listener_there pair there.
      gets_of alloc run.past run.room run.went s m apart listener listener_there pair (run.members m pair there)
      (run.lines m pair there listener listener_there);
  heard = λ s m apart speaker speaker_there pair there.
      heard_of_is alloc run.past run.room run.went s m speaker speaker_there pair (run.members s pair there)
      (run.lines s pair there speaker speaker_there);
}
