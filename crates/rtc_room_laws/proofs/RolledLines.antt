-- All that the hub wrote to a member's line went to the stream of the line in the generation in which it was announced, whether or not a
-- rollback removed the channel: of one that was removed no write is taken.
use Rattle.std.proofs.Common.{◌≡◌, ◌∙◌, ◌⊎◌, inl, inr, ◌++◌, if◌then◌else◌, ℕ, Bool, true, false, true≢false, List, [], ◌∷◌, Option, Some, None, refl, sym, ap, subst, append-nil}
use Rattle.rtc_wire.specs.declared.addr.Addr.{Addr}
use Rattle.rtc_parts.specs.Among.{Member}
use Rattle.rtc_plain_ice.specs.Messages.{is_ice_message}
use Rattle.rtc_plain_media.specs.declared.plain_media_event.PlainMediaEvent.{PlainMediaEvent}
use Rattle.rtc_peer_transport.specs.ChannelCalls.{open_stream_under}
use Rattle.rtc_peer_laws.specs.ChannelStreams.{IsGone}
use Rattle.rtc_peer_laws.proofs.ChannelsOver.{none_under}
use Rattle.rtc_run_history.specs.CallReplies.{StepWrites}
use Rattle.rtc_run_history.specs.Native.{are_native}
use Rattle.rtc_run_history.specs.PairState.{addr_at, rtc_at}
use Rattle.rtc_run_history.specs.Past.{Entry, steps_of}
use Rattle.rtc_run_history.specs.Performs.{Acts}
use Rattle.rtc_run_history.specs.Runs.{Reached}
use Rattle.rtc_run_history.specs.Sides.{other_side, same_side, side_of}
use Rattle.rtc_run_history.specs.declared.kept.Kept.{Kept}
use Rattle.rtc_run_history.specs.declared.outcome.Outcome.{Outcome}
use Rattle.rtc_run_history.specs.declared.outcome.Outcome.TheVariants.{Wrote, NoSuch, Alloc}
use Rattle.rtc_run_history.specs.declared.sent_packet.SentPacket.{SentPacket}
use Rattle.rtc_run_history.specs.declared.side.Side.TheVariants.{Left, Right}
use Rattle.rtc_run_history.specs.declared.step.Step.{Step}
use Rattle.rtc_run_history.specs.declared.step.Step.TheVariants.{Write}
use Rattle.rtc_run_history.specs.declared.table.Table.{Table}
use Rattle.rtc_run_laws.specs.ChannelUses.{ChannelUse}
use Rattle.rtc_run_laws.specs.NewPairs.{IsNewPair}
use Rattle.rtc_run_laws.specs.PlainPairs.{PlainPolled}
use Rattle.rtc_run_laws.specs.SentMessages.{sent_acted, sent_by_write, sent_over}
use Rattle.rtc_run_laws.specs.ToldMessages.{told_over}
use Rattle.rtc_run_laws.specs.UsesOfRuns.{uses_acted, uses_of}
use Rattle.rtc_run_laws.proofs.NativeSteps.{native_entry}
use Rattle.rtc_run_laws.proofs.OpenStreams.{open_placed}
use Rattle.rtc_run_laws.proofs.RunsTold.{PairTold, new_pair_told, pair_whole, reached_told}
use Rattle.rtc_run_laws.proofs.UseLists.{all_member}
use Rattle.rtc_run_laws.proofs.UsesTold.{InBandTold}
use Rattle.rtc_run.specs.ProgramPair.{PlainPairState, counting, plain_parts}
use Rattle.rtc_room_laws.specs.Forwarding.{write_of}
use Rattle.rtc_room_laws.specs.Members.{item_bytes}
use Rattle.rtc_room_laws.specs.declared.item.Item.{Item}
use Rattle.rtc_room_laws.specs.RoomHandsOn.{first_use}
use Rattle.rtc_room_laws.specs.ItemMessages.{LineMessage}
use Rattle.rtc_room_laws.proofs.LineStands.{first_number}
use Rattle.rtc_room_laws.proofs.TakenMessages.{message_taken, taken_by, taken_messages}
use Rattle.rtc_room_laws.proofs.Talks.{blank, blanks, blanks_of}
use Rattle.rtc_room_laws.proofs.WrittenLines.{WriteTo, WroteTo, sent_by, sent_by-first, written_sent}
use Rattle.rtc_room_laws.proofs.FirstUses.{FirstFrom, WasFirst, acted_first, first_blank, first_member, rolls_back, stays_first}

-- ---- what was sent

none_some : {A : Type 0} (x : A) → None ≡ Some x → ⊥
none_some x h = cc

cons_none : {A : Type 0} (x : A) (xs : List A) → x ∷ xs ≡ [] → ⊥
cons_none x xs h = cc

unsent_write : (found : Option ℕ) (binary : Bool) (bytes : List ℕ) (outcome : Outcome PlainMediaEvent) (old : PlainPolled ℕ) (s g : ℕ) (sent : List LineMessage)
    → message_taken outcome (binary, bytes) ≡ [] → sent_by_write plain_parts found binary bytes outcome old s g sent ≡ sent
unsent_write None binary bytes outcome old s g sent h = refl
unsent_write (Some t) binary bytes (Wrote true) old s g sent h = absurd (cons_none (binary, bytes) [] h)
unsent_write (Some t) binary bytes (Wrote false) old s g sent h = refl
unsent_write (Some t) binary bytes outcome old s g sent h = refl

-- a step by which nothing was taken sent nothing
unsent_acted : (step : Step) (outcome : Outcome PlainMediaEvent) (old : PlainPolled ℕ) (s g : ℕ) (sent : List LineMessage) → same_side (side_of step) Left ≡ true
    → taken_by step outcome ≡ [] → sent_acted plain_parts step outcome old s g sent ≡ sent
unsent_acted (Write Left channel binary bytes) outcome old s g sent left h = unsent_write (open_stream_under channel old) binary bytes outcome old s g sent h
unsent_acted (Write Right channel binary bytes) outcome old s g sent left h = absurd (true≢false (sym left))
unsent_acted step outcome old s g sent left h = refl

-- a write that finds no open stream is not taken
untaken_none : (found : Option ℕ) (binary : Bool) (bytes : List ℕ) (old : PlainPolled ℕ) (outcome : Outcome PlainMediaEvent) (table : Option Table) (new : PlainPolled ℕ)
    → found ≡ None → StepWrites plain_parts found binary bytes old outcome table new → outcome ≡ Wrote true → ⊥
untaken_none None binary bytes old Alloc None new none h taken =
    cons_none (true, []) [] (sym (ap (λ (o : Outcome PlainMediaEvent). message_taken o (true, [])) taken))
untaken_none None binary bytes old NoSuch (Some table) new none h taken =
    cons_none (true, []) [] (sym (ap (λ (o : Outcome PlainMediaEvent). message_taken o (true, [])) taken))
untaken_none None binary bytes old outcome table new none h taken = absurd h
untaken_none (Some t) binary bytes old outcome table new none h taken = absurd (none_some t (sym none))

-- so no write to a channel is taken that a rollback removed
gone_untaken : (c : ℕ) (item : Item) (other own : Addr) (old : PlainPolled ℕ) (sdps : List Kept) (packets : List SentPacket) (outcome : Outcome PlainMediaEvent)
    (table : Option Table) (new : PlainPolled ℕ) (sdps' : List Kept) (packets' : List SentPacket) → open_stream_under c old ≡ None
    → Acts plain_parts is_ice_message other own (write_of c item) old sdps packets outcome table new sdps' packets' → outcome ≡ Wrote true → ⊥
gone_untaken c item other own old sdps packets outcome table new sdps' packets' none a taken =
    untaken_none (open_stream_under c old) true (item_bytes item) old outcome table new none a.0 taken

-- ---- a whole run

module _ (start : PlainPairState) (new : IsNewPair counting start) where
  abbrev pub left_uses : (past : List (Entry PlainMediaEvent)) (pair : PlainPairState) → Reached plain_parts is_ice_message start past pair → List ChannelUse
  left_uses past pair ran = uses_of plain_parts is_ice_message start Left past pair ran

  told : (past : List (Entry PlainMediaEvent)) (pair : PlainPairState) → are_native (steps_of past) ≡ true → (ran : Reached plain_parts is_ice_message start past pair)
      → PairTold counting pair (λ at. uses_of plain_parts is_ice_message start at past pair ran) (λ at. sent_over plain_parts is_ice_message start at past pair ran)
      (λ at. told_over plain_parts is_ice_message start at past pair ran)
  told past pair native ran = reached_told counting is_ice_message start past pair native ran (new_pair_told counting start new)

  -- a channel that a rollback removed has no open stream
  gone_closed : (past : List (Entry PlainMediaEvent)) (pair : PlainPairState) → are_native (steps_of past) ≡ true → (ran : Reached plain_parts is_ice_message start past pair)
      → (x : ChannelUse) → Member x (left_uses past pair ran) → x.in_band ≡ true → x.rolled_back ≡ true → open_stream_under x.channel pair.left ≡ None
  gone_closed past pair native ran x there band rolled =
      let side = (told past pair native ran).left.side in
      let undone = (all_member (InBandTold plain_parts side.written side.read pair.left) (left_uses past pair ran) x side.told.each there band).undone rolled in
      by undone.gone (open_stream_under x.channel pair.left) refl
    where
      by : IsGone x.channel pair.left.core.channels → (found : Option ℕ) → open_stream_under x.channel pair.left ≡ found → found ≡ None
      by gone None e = refl
      by gone (Some t) e =
          absurd (none_some t (sym (none_under x.channel pair.left.core.channels.rows gone.1) ∙ open_placed x.channel t pair.left e))

  -- what the first use of a channel sent is all that was taken, if all was written to it
  pub sent_is : (c : ℕ) (past : List (Entry PlainMediaEvent)) (pair : PlainPairState) (ran : Reached plain_parts is_ice_message start past pair) (x : ChannelUse)
      → WriteTo c past → first_use c (left_uses past pair ran) ≡ Some x → x.sent ≡ taken_messages past
  sent_is c past pair ran x writes first =
      sym (sent_by-first c (blanks (left_uses past pair ran)) (blank x) (first_blank c (left_uses past pair ran) x first))
      ∙ ap (sent_by c) (blanks_of start past pair ran)
      ∙ written_sent c past writes

  pub sent_over_is : (c : ℕ) (past : List (Entry PlainMediaEvent)) (pair : PlainPairState) → are_native (steps_of past) ≡ true
      → (ran : Reached plain_parts is_ice_message start past pair) (x : ChannelUse) → WriteTo c past → first_use c (left_uses past pair ran) ≡ Some x
      → x.in_band ≡ true → (s : ℕ) → x.stream ≡ Some s
      → sent_over plain_parts is_ice_message start Left past pair ran s x.generation ≡ taken_messages past
  sent_over_is c [] pair native ran x writes first band s of = absurd (none_some x first)
  sent_over_is c (entry ∷ past) pair native ran x writes first band s of =
      by x.rolled_back refl (λ y is_first y_band y_of. sent_over_is c past ran.0 (native_entry entry past native).0 ran.1 y writes.1 is_first y_band s y_of)
    where
      before : List ChannelUse
      before = left_uses past ran.0 ran.1

      sent : ℕ → List LineMessage
      sent g = sent_over plain_parts is_ice_message start Left past ran.0 ran.1 s g

      entry_first : (b : Bool)
          → first_use c
          (if b
          then uses_acted plain_parts is_ice_message (addr_at (other_side (side_of entry.step)) ran.0) (addr_at (side_of entry.step) ran.0) entry.step
          (rtc_at (side_of entry.step) ran.0) ran.0.sdps ran.0.packets entry.outcome entry.table
          (rtc_at (side_of entry.step) pair) pair.sdps pair.packets ran.2.performs.acts before
          else before)
          ≡ Some x → FirstFrom (rolls_back entry.step) c before x
      entry_first true h =
          acted_first c (addr_at (other_side (side_of entry.step)) ran.0) (addr_at (side_of entry.step) ran.0) entry.step (rtc_at (side_of entry.step) ran.0) ran.0.sdps ran.0.packets
          entry.outcome entry.table (rtc_at (side_of entry.step) pair) pair.sdps pair.packets ran.2.performs.acts before x h
      entry_first false h = stays_first (rolls_back entry.step) c before x h

      unsent : taken_by entry.step entry.outcome ≡ [] → (g : ℕ) (b : Bool) → same_side (side_of entry.step) Left ≡ b
          → (if b then sent_acted plain_parts entry.step entry.outcome (rtc_at (side_of entry.step) ran.0) s g (sent g) else sent g) ≡ sent g
      unsent none g true e = unsent_acted entry.step entry.outcome (rtc_at (side_of entry.step) ran.0) s g (sent g) e none
      unsent none g false e = refl

      -- a write that was taken found the channel in place
      stood : (was : WasFirst (rolls_back entry.step) c before x) → x.rolled_back ≡ true → WroteTo c entry past → ⊥
      stood was rolled wrote =
          let kept : x.rolled_back ≡ was.x.rolled_back = was.rolled (ap rolls_back wrote.step_is) in
          let closed : open_stream_under was.x.channel ran.0.left ≡ None =
          gone_closed past ran.0 (native_entry entry past native).0 ran.1 was.x (first_member c before was.x was.is_first) (sym was.same.band_is ∙ band) (sym kept ∙ rolled) in
          let none : open_stream_under c ran.0.left ≡ None =
          ap (λ (n : ℕ). open_stream_under n ran.0.left) (sym (first_number c before was.x was.is_first)) ∙ closed in
          let acts : Acts plain_parts is_ice_message (addr_at Right ran.0) (addr_at Left ran.0) (write_of c wrote.item) ran.0.left ran.0.sdps ran.0.packets entry.outcome entry.table
          pair.left pair.sdps pair.packets =
          subst
          (λ (step : Step). Acts plain_parts is_ice_message (addr_at (other_side (side_of step)) ran.0) (addr_at (side_of step) ran.0) step (rtc_at (side_of step) ran.0) ran.0.sdps ran.0.packets
          entry.outcome entry.table (rtc_at (side_of step) pair) pair.sdps pair.packets)
          wrote.step_is ran.2.performs.acts in
          gone_untaken c wrote.item (addr_at Right ran.0) (addr_at Left ran.0) ran.0.left ran.0.sdps ran.0.packets entry.outcome entry.table pair.left pair.sdps pair.packets
          none acts wrote.taken

      by : (b : Bool) → x.rolled_back ≡ b
          → ((y : ChannelUse) → first_use c before ≡ Some y → y.in_band ≡ true → y.stream ≡ Some s → sent y.generation ≡ taken_messages past)
          → sent_over plain_parts is_ice_message start Left (entry ∷ past) pair ran s x.generation ≡ taken_messages (entry ∷ past)
      by false left earlier =
          pair_whole counting pair (λ at. uses_of plain_parts is_ice_message start at (entry ∷ past) pair ran)
          (λ at. sent_over plain_parts is_ice_message start at (entry ∷ past) pair ran) (λ at. told_over plain_parts is_ice_message start at (entry ∷ past) pair ran)
          Left (told (entry ∷ past) pair native ran) x (first_member c (left_uses (entry ∷ past) pair ran) x first) band left s of
          ∙ sent_is c (entry ∷ past) pair ran x writes first
      by true rolled earlier = from (entry_first (same_side (side_of entry.step) Left) first) writes.0
        where
          from : FirstFrom (rolls_back entry.step) c before x → (taken_by entry.step entry.outcome ≡ []) ⊎ WroteTo c entry past
              → sent_over plain_parts is_ice_message start Left (entry ∷ past) pair ran s x.generation ≡ taken_messages past ++ taken_by entry.step entry.outcome
          from (inl none) wrote = absurd (true≢false (sym rolled ∙ none))
          from (inr was) (inr wrote) = absurd (stood was rolled wrote)
          from (inr was) (inl none) =
              unsent none x.generation (same_side (side_of entry.step) Left) refl
              ∙ ap sent was.same.generation_is
              ∙ earlier was.x was.is_first (sym was.same.band_is ∙ band) (sym was.same.stream_is ∙ of)
              ∙ sym (append-nil (taken_messages past))
              ∙ ap (λ (l : List LineMessage). taken_messages past ++ l) (sym none)
