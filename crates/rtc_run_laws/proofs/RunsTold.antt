-- Runs keep what holds of the channels that both sides announced, and what one channel hands out was sent over the other.
use Rattle.std.proofs.Common.{◌≡◌, ◌∙◌, ◌∷◌, if◌then◌else◌, ℕ, Bool, true, List, [], Some, inl, inr, refl, sym, ap, subst}
use Rattle.rtc_parts.specs.Among.{Among}
use Rattle.rtc_parts.proofs.AmongLemmas.{among_none}
use Rattle.rtc_parts.specs.DtlsWords.{dtls_got}
use Rattle.rtc_assoc.specs.Unread.{IsPrefix}
use Rattle.rtc_assoc_state.specs.PlainMeaning.{plain_meaning}
use Rattle.rtc_plain_media.specs.declared.plain_media_event.PlainMediaEvent.{PlainMediaEvent}
use Rattle.rtc_parts.specs.Draws.{Draws}
use Rattle.rtc_sctp_entries.specs.declared.stream_entry.StreamEntry.{StreamEntry}
use Rattle.rtc_sctp_laws.specs.StreamUses.{HasOpenInBand, IsUsed, messages_of}
use Rattle.rtc_sctp_laws.specs.Contents.{contents_of}
use Rattle.rtc_channels.specs.Channels.{Channels}
use Rattle.rtc_peer_laws.specs.ChannelStreams.{AreNumberedChannels}
use Rattle.rtc_peer_laws.specs.PeerActs.{PeerActs}
use Rattle.rtc_peer_laws.proofs.OpenedOnce.{restarted}
use Rattle.rtc_peer_laws.specs.Exchanging.{PeersExchange, parts_past}
use Rattle.rtc_peer_laws.specs.JoinedPeers.{packet_parts}
use Rattle.rtc_peer_laws.proofs.JoinedLemmas.{unused_joined}
use Rattle.rtc_run_history.specs.declared.side.Side.{Side}
use Rattle.rtc_run_history.specs.declared.side.Side.TheVariants.{Left, Right}
use Rattle.rtc_run_history.specs.Native.{are_native}
use Rattle.rtc_run_history.specs.PairState.{addr_at, rtc_at}
use Rattle.rtc_run_history.specs.Past.{Entry, steps_of}
use Rattle.rtc_run_history.specs.Runs.{Reached}
use Rattle.rtc_run_history.specs.Sides.{other_side, same_side, side_of}
use Rattle.rtc_run_laws.specs.NewPairs.{IsNewPair, IsNewPeer}
use Rattle.rtc_run_laws.specs.PlainPairs.{PairActs, PairExchanges, PlainPair, PlainPolled, plain_over}
use Rattle.rtc_run_laws.specs.SentContents.{contents_sent}
use Rattle.rtc_run_laws.proofs.NewPeers.{new_built, nothing_sent, new_channels, new_entries}
use Rattle.rtc_run_laws.proofs.RunsExchange.{side_all, side_reads}
use Rattle.rtc_run_laws.specs.AnnouncedOnce.{AreAnnouncedOnce}
use Rattle.rtc_run_laws.specs.ChannelUses.{ChannelUse}
use Rattle.rtc_run_laws.specs.HandedOut.{AreHandedOut, AreHandedOver, AreSentFirst, AreSentWhole, AreToldInOne, AreToldWhole, AreWhollyHandedOut}
use Rattle.rtc_run_laws.specs.PollsOfRuns.{by_step}
use Rattle.rtc_run_laws.specs.SentMessages.{sent_acted, sent_over}
use Rattle.rtc_run_laws.specs.ToldMessages.{MessagesTold, told_over, told_shown}
use Rattle.rtc_run_laws.specs.UsesOfRuns.{uses_acted, uses_of}
use Rattle.rtc_run_laws.proofs.AllHanded.{all_handed}
use Rattle.rtc_run_laws.proofs.GotAndSent.{handed, handed_over, told_whole}
use Rattle.rtc_run_laws.proofs.RolledUses.{use_first}
use Rattle.rtc_run_laws.proofs.SidesTold.{SideTold}
use Rattle.rtc_run_laws.proofs.SidesInOne.{IsInOne}
use Rattle.rtc_run_laws.proofs.UseLists.{all_member}
use Rattle.rtc_run_laws.proofs.UsesTold.{InBandTold}
use Rattle.rtc_run_laws.proofs.WholeUses.{none_whole}
use Rattle.rtc_run_laws.proofs.StandingSides.{Sent, SideSent, Stood}
use Rattle.rtc_run_laws.proofs.StepsTold.{acts_stood}
use Rattle.rtc_run_laws.proofs.NativeSteps.{native_entry}

module _ {N : Type 0} (draws : Draws N) where
  -- what holds of both sides of a pair
  pub record PairTold (pair : PlainPair N) (uses : Side → List ChannelUse) (sent : Side → Sent) (told : Side → MessagesTold) : Type 0 where
    pub acts : PairActs
    pub exchange : PairExchanges acts pair
    pub left : SideSent draws acts.left (uses Left) (sent Left) (told Left) pair.left
    pub right : SideSent draws acts.right (uses Right) (sent Right) (told Right) pair.right

  -- the same as the side sees it that acts
  pub record StoodIn (at : Side) (pair : PlainPair N) (uses : Side → List ChannelUse) (sent : Side → Sent) (told : Side → MessagesTold) : Type 0 where
    pub other : PeerActs
    pub stood : Stood draws at pair.packets other (rtc_at (other_side at) pair) (uses at) (sent at) (told at) (rtc_at at pair)
    pub rest : SideSent draws other (uses (other_side at)) (sent (other_side at)) (told (other_side at)) (rtc_at (other_side at) pair)

  pub stood_in : (at : Side) (pair : PlainPair N) (uses : Side → List ChannelUse) (sent : Side → Sent) (told : Side → MessagesTold)
      → PairTold pair uses sent told → StoodIn at pair uses sent told
  stood_in Left pair uses sent told h = record {
    other = h.acts.right;
    stood = record { acts = h.acts.left; exchange = h.exchange; side = h.left.side; sent_is = h.left.sent_is; whole = h.left.whole; only = h.left.only; running = h.left.running };
    rest = h.right;
  }
  stood_in Right pair uses sent told h = record {
    other = h.acts.left;
    stood = record { acts = h.acts.right; exchange = h.exchange; side = h.right.side; sent_is = h.right.sent_is; whole = h.right.whole; only = h.right.only; running = h.right.running };
    rest = h.left;
  }

  told_after : (at : Side) (pair : PlainPair N) (other : PeerActs) (q : PlainPolled N) → rtc_at (other_side at) pair ≡ q → (uses : Side → List ChannelUse)
      (acted : List ChannelUse → List ChannelUse) (sent : Side → Sent) (sends : ℕ → ℕ → List (Bool × List ℕ) → List (Bool × List ℕ))
      (told : Side → MessagesTold) (tells : MessagesTold → MessagesTold)
      → Stood draws at pair.packets other q (acted (uses at)) (λ s g. sends s g (sent at s g)) (tells (told at)) (rtc_at at pair)
      → SideSent draws other (uses (other_side at)) (sent (other_side at)) (told (other_side at)) q
      → PairTold pair (λ x. if same_side at x then acted (uses x) else uses x) (λ x s g. if same_side at x then sends s g (sent x s g) else sent x s g)
      (λ x. if same_side at x then tells (told x) else told x)
  told_after Left pair other q same uses acted sent sends told tells stood rest = record {
    acts = record { left = stood.acts; right = other };
    exchange =
        subst (λ (x : PlainPolled N). PeersExchange stood.acts (contents_sent Left pair.packets) pair.left other (contents_sent Right pair.packets) x) (sym same)
        stood.exchange;
    left = record { side = stood.side; sent_is = stood.sent_is; whole = stood.whole; only = stood.only; running = stood.running };
    right = subst (λ (x : PlainPolled N). SideSent draws other (uses Right) (sent Right) (told Right) x) (sym same) rest;
  }
  told_after Right pair other q same uses acted sent sends told tells stood rest = record {
    acts = record { left = other; right = stood.acts };
    exchange =
        subst (λ (x : PlainPolled N). PeersExchange other (contents_sent Left pair.packets) x stood.acts (contents_sent Right pair.packets) pair.right) (sym same)
        stood.exchange;
    left = subst (λ (x : PlainPolled N). SideSent draws other (uses Left) (sent Left) (told Left) x) (sym same) rest;
    right = record { side = stood.side; sent_is = stood.sent_is; whole = stood.whole; only = stood.only; running = stood.running };
  }

  -- a new pair
  new_told : (p : PlainPolled N) → IsNewPeer draws p.core → SideTold (plain_over draws) [] [] [] p
  new_told p h =
      let entries = new_entries draws p h in
      record {
        used =
            inr
            (λ s.
            subst (λ (es : List StreamEntry). IsUsed plain_meaning s [] [] p.core.sctp.association es) (sym entries)
            (restarted plain_meaning s 0 p.core.sctp.association [] (inr tt)));
        numbers = subst (λ (x : Channels). AreNumberedChannels x) (sym (new_channels draws p h)) (tt, tt, tt);
        named_written = tt;
        named_read = tt;
        each = tt;
        once = tt;
        announced = inr (λ s own k. absurd (subst (λ (es : List StreamEntry). HasOpenInBand s own es) entries k));
        behind = λ s g. inl refl;
        out = tt;
      }

  pub new_pair_told : (pair : PlainPair N) → IsNewPair draws pair → PairTold pair (λ at. []) (λ at s g. []) (λ at c s g. [])
  new_pair_told pair h =
      let a = new_built draws pair.left h.left in
      let b = new_built draws pair.right h.right in
      record {
        acts = record { left = a.acts; right = b.acts };
        exchange = record {
          joined = unused_joined (parts_past a.acts) (parts_past b.acts) (packet_parts pair.left) (packet_parts pair.right) a.unused b.unused;
          left = nothing_sent draws Left pair.packets a.acts pair.left h.packets a.shown;
          right = nothing_sent draws Right pair.packets b.acts pair.right h.packets b.shown;
        };
        left = record {
          side = record { written = []; read = []; wrote_is = a.wrote_none; read_is = a.read_none; told = new_told pair.left h.left; went = a.unused.association; dtls = a.unused.dtls; handed = subst (λ (l : List (List ℕ)). Among l (dtls_got a.acts.dtls)) (sym a.unused.none_handed) (among_none (dtls_got a.acts.dtls)) };
          sent_is = λ s g. refl;
          whole = none_whole;
          only = record { early = inr (λ c s g. inl refl); each = tt };
          running = tt;
        };
        right = record {
          side = record { written = []; read = []; wrote_is = b.wrote_none; read_is = b.read_none; told = new_told pair.right h.right; went = b.unused.association; dtls = b.unused.dtls; handed = subst (λ (l : List (List ℕ)). Among l (dtls_got b.acts.dtls)) (sym b.unused.none_handed) (among_none (dtls_got b.acts.dtls)) };
          sent_is = λ s g. refl;
          whole = none_whole;
          only = record { early = inr (λ c s g. inl refl); each = tt };
          running = tt;
        };
      }

  -- steps
  module _ (stun : List ℕ → Bool) (start : PlainPair N) where
    pub reached_told : (past : List (Entry PlainMediaEvent)) (pair : PlainPair N) → are_native (steps_of past) ≡ true
        → (ran : Reached (plain_over draws) stun start past pair)
        → PairTold start (λ at. []) (λ at s g. []) (λ at c s g. [])
        → PairTold pair (λ at. uses_of (plain_over draws) stun start at past pair ran) (λ at. sent_over (plain_over draws) stun start at past pair ran)
        (λ at. told_over (plain_over draws) stun start at past pair ran)
    reached_told [] pair go ran h = subst (λ (x : PlainPair N). PairTold x (λ at. []) (λ at s g. []) (λ at c s g. [])) (sym ran) h
    reached_told (entry ∷ past) pair go ran h = by (reached_told past ran.0 (native_entry entry past go).0 ran.1 h)
      where
        at : Side
        at = side_of entry.step

        uses : Side → List ChannelUse
        uses x = uses_of (plain_over draws) stun start x past ran.0 ran.1

        sent : Side → Sent
        sent x = sent_over (plain_over draws) stun start x past ran.0 ran.1

        told : Side → MessagesTold
        told x = told_over (plain_over draws) stun start x past ran.0 ran.1

        acted : List ChannelUse → List ChannelUse
        acted l =
            uses_acted (plain_over draws) stun (addr_at (other_side (side_of entry.step)) ran.0) (addr_at (side_of entry.step) ran.0) entry.step (rtc_at (side_of entry.step) ran.0) ran.0.sdps ran.0.packets entry.outcome entry.table
            (rtc_at (side_of entry.step) pair) pair.sdps pair.packets ran.2.performs.acts l

        sends : ℕ → ℕ → List (Bool × List ℕ) → List (Bool × List ℕ)
        sends s g l = sent_acted (plain_over draws) entry.step entry.outcome (rtc_at (side_of entry.step) ran.0) s g l

        tells : MessagesTold → MessagesTold
        tells l =
            by_step (plain_over draws) (told_shown (plain_over draws)) stun (addr_at (other_side (side_of entry.step)) ran.0) (addr_at (side_of entry.step) ran.0) entry.step (rtc_at (side_of entry.step) ran.0) ran.0.sdps ran.0.packets
            entry.outcome entry.table (rtc_at (side_of entry.step) pair) pair.sdps pair.packets ran.2.performs.acts l

        by : PairTold ran.0 uses sent told
            → PairTold pair (λ x. if same_side (side_of entry.step) x then acted (uses x) else uses x)
            (λ x s g. if same_side (side_of entry.step) x then sends s g (sent x s g) else sent x s g)
            (λ x. if same_side (side_of entry.step) x then tells (told x) else told x)
        by h =
            let before : StoodIn (side_of entry.step) ran.0 uses sent told = stood_in (side_of entry.step) ran.0 uses sent told h in
            told_after (side_of entry.step) pair before.other (rtc_at (other_side (side_of entry.step)) ran.0) ran.2.performs.other uses acted sent sends told tells
            (acts_stood draws before.other (rtc_at (other_side (side_of entry.step)) ran.0) stun (addr_at (other_side (side_of entry.step)) ran.0) (addr_at (side_of entry.step) ran.0) entry.step (rtc_at (side_of entry.step) ran.0) ran.0.sdps
            ran.0.packets entry.outcome entry.table (rtc_at (side_of entry.step) pair) pair.sdps pair.packets (uses (side_of entry.step))
            (sent (side_of entry.step)) (told (side_of entry.step)) (native_entry entry past go).1 ran.2.performs.acts before.stood)
            before.rest

module _ {N : Type 0} (draws : Draws N) where
  pub pair_handed : (pair : PlainPair N) (uses : Side → List ChannelUse) (sent : Side → Sent) (told : Side → MessagesTold) (at : Side) → PairTold draws pair uses sent told → AreHandedOut (uses at) (uses (other_side at))
  pair_handed pair uses sent told Left h =
      handed draws h.acts.left h.acts.right (uses Left) (uses Right) pair.left pair.right h.left.side h.right.side
      (λ s g. side_reads h.acts pair Right s g h.exchange)
  pair_handed pair uses sent told Right h =
      handed draws h.acts.right h.acts.left (uses Right) (uses Left) pair.right pair.left h.right.side h.left.side
      (λ s g. side_reads h.acts pair Left s g h.exchange)

  pub pair_handed_over : (pair : PlainPair N) (uses : Side → List ChannelUse) (sent : Side → Sent) (told : Side → MessagesTold) (at : Side)
      → PairTold draws pair uses sent told → AreHandedOver (uses at) (uses (other_side at)) (sent (other_side at))
  pair_handed_over pair uses sent told Left h =
      handed_over draws h.acts.left h.acts.right (uses Left) (uses Right) pair.left pair.right (sent Right) (told Right) h.left.side h.right
      (λ s g. side_reads h.acts pair Right s g h.exchange)
  pair_handed_over pair uses sent told Right h =
      handed_over draws h.acts.right h.acts.left (uses Right) (uses Left) pair.right pair.left (sent Left) (told Left) h.right.side h.left
      (λ s g. side_reads h.acts pair Left s g h.exchange)

  pub pair_once : (pair : PlainPair N) (uses : Side → List ChannelUse) (sent : Side → Sent) (told : Side → MessagesTold) (at : Side) → PairTold draws pair uses sent told → AreAnnouncedOnce (uses at)
  pair_once pair uses sent told Left h = h.left.side.told.once
  pair_once pair uses sent told Right h = h.right.side.told.once

  pub pair_wholly : (pair : PlainPair N) (uses : Side → List ChannelUse) (sent : Side → Sent) (told : Side → MessagesTold) (at : Side) → PairTold draws pair uses sent told
      → AreWhollyHandedOut draws (uses at) (rtc_at at pair) (uses (other_side at)) (rtc_at (other_side at) pair)
  pair_wholly pair uses sent told Left h = λ x y mine theirs joined acknowledged heard.
      all_handed draws h.acts.left h.acts.right (uses Left) (uses Right) pair.left pair.right h.left.side h.right.side x y joined mine theirs
      (λ here there none. side_all h.acts pair Right joined.reader.stream x.generation h.exchange here there none) acknowledged heard
  pair_wholly pair uses sent told Right h = λ x y mine theirs joined acknowledged heard.
      all_handed draws h.acts.right h.acts.left (uses Right) (uses Left) pair.right pair.left h.right.side h.left.side x y joined mine theirs
      (λ here there none. side_all h.acts pair Left joined.reader.stream x.generation h.exchange here there none) acknowledged heard

  -- what was sent over a channel is all that the side ever sent to the generation
  side_whole : (acts : PeerActs) (uses : List ChannelUse) (sent : Sent) (told : MessagesTold) (p : PlainPolled N) → SideSent draws acts uses sent told p
      → AreSentWhole uses sent
  side_whole acts uses sent told p h = λ x mine band left s of.
      let t = (all_member (InBandTold (plain_over draws) h.side.written h.side.read p) uses x h.side.told.each mine band).kept left in
      sym (h.sent_is s x.generation)
      ∙ ap (λ (n : ℕ). contents_of (messages_of n x.generation h.side.written)) (some_is s t.stream (sym of ∙ t.stream_is))
      ∙ t.sent_is
    where
      some_is : (n k : ℕ) → Some n ≡ Some k → n ≡ k
      some_is n k e = cc

  pub pair_whole : (pair : PlainPair N) (uses : Side → List ChannelUse) (sent : Side → Sent) (told : Side → MessagesTold) (at : Side) → PairTold draws pair uses sent told
      → AreSentWhole (uses at) (sent at)
  pair_whole pair uses sent told Left h = side_whole h.acts.left (uses Left) (sent Left) (told Left) pair.left h.left
  pair_whole pair uses sent told Right h = side_whole h.acts.right (uses Right) (sent Right) (told Right) pair.right h.right

  -- or the first of that, if a rollback removed the channel
  side_first : (acts : PeerActs) (uses : List ChannelUse) (sent : Sent) (told : MessagesTold) (p : PlainPolled N) → SideSent draws acts uses sent told p
      → AreSentFirst uses sent
  side_first acts uses sent told p h = λ x mine band s of.
      subst (λ (l : List (Bool × List ℕ)). IsPrefix x.sent l) (h.sent_is s x.generation)
      (use_first (plain_over draws) h.side.written h.side.read p x
      (all_member (InBandTold (plain_over draws) h.side.written h.side.read p) uses x h.side.told.each mine band) s of)

  pub pair_first : (pair : PlainPair N) (uses : Side → List ChannelUse) (sent : Side → Sent) (told : Side → MessagesTold) (at : Side) → PairTold draws pair uses sent told
      → AreSentFirst (uses at) (sent at)
  pair_first pair uses sent told Left h = side_first h.acts.left (uses Left) (sent Left) (told Left) pair.left h.left
  pair_first pair uses sent told Right h = side_first h.acts.right (uses Right) (sent Right) (told Right) pair.right h.right

  -- and what was told of one is what it got
  pub pair_told_whole : (pair : PlainPair N) (uses : Side → List ChannelUse) (sent : Side → Sent) (told : Side → MessagesTold) (at : Side) → PairTold draws pair uses sent told
      → AreToldWhole (uses at) (uses (other_side at)) (told at)
  pair_told_whole pair uses sent told Left h =
      told_whole draws h.acts.left h.acts.right (uses Left) (uses Right) pair.left pair.right h.left.side h.right.side (told Left) h.left.whole
      (λ s g. side_reads h.acts pair Right s g h.exchange)
  pair_told_whole pair uses sent told Right h =
      told_whole draws h.acts.right h.acts.left (uses Right) (uses Left) pair.right pair.left h.right.side h.left.side (told Right) h.right.whole
      (λ s g. side_reads h.acts pair Left s g h.exchange)

  -- and nothing was told of it elsewhere
  pub pair_only : (pair : PlainPair N) (uses : Side → List ChannelUse) (sent : Side → Sent) (told : Side → MessagesTold) (at : Side) → PairTold draws pair uses sent told
      → AreToldInOne (uses at) (told at)
  pair_only pair uses sent told Left h = λ x mine band s g. all_member (IsInOne (told Left)) (uses Left) x h.left.only.each mine band s g
  pair_only pair uses sent told Right h = λ x mine band s g. all_member (IsInOne (told Right)) (uses Right) x h.right.only.each mine band s g
