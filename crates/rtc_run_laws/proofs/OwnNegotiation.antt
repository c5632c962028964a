-- Negotiation gives the channels that it stages numbers whose rows have no stream yet.
use Rattle.std.proofs.Common.{◌≡◌, ◌≤◌, arith, ◌++◌, ◌∷◌, Bool, true, false, ℕ, List, [], Result, Ok, Err, alloc_error, refl, sym, ap, subst}
use Rattle.std.specs.declared.alloc.AllocError.{AllocError}
use Rattle.rtc_wire.specs.declared.channel_config.ChannelConfig.{ChannelConfig}
use Rattle.rtc_sdp_values.specs.declared.direction.Direction.{Direction}
use Rattle.rtc_sdp_values.specs.declared.direction.Direction.TheVariants.{Inactive}
use Rattle.rtc_peer_rows.specs.RowChanges.{RowChange, directed_row, stopped_row}
use Rattle.rtc_channels.specs.Channels.{AreBelow, Channels, with_channel}
use Rattle.rtc_change.specs.declared.change.Change.{Change}
use Rattle.rtc_change.specs.declared.change.Change.TheVariants.{AddChannel as AddingChannel, Direction as Setting}
use Rattle.rtc_change.specs.PendingOffer.{PendingOffer}
use Rattle.rtc_peer_core.specs.declared.peer.Peer.{Peer}
use Rattle.rtc_peer_core.specs.Calls.{ChangesLine, LacksOffer, after_channels_alone, app_changes, fitting_channels, needs_app}
use Rattle.rtc_peer_core.specs.Meanings.{Meanings}
use Rattle.rtc_peer_core.specs.SdpHalves.{draws_half}
use Rattle.rtc_peer_core.specs.Stance.{stance_of}
use Rattle.rtc_run_history.specs.declared.side.Side.{Side}
use Rattle.rtc_run_history.specs.declared.op.Op.{Op}
use Rattle.rtc_run_history.specs.declared.op.Op.TheVariants.{AddMedia, SetDirection, StopMedia, AddChannel, IceRestart}
use Rattle.rtc_run_history.specs.declared.op_answer.OpAnswer.{OpAnswer}
use Rattle.rtc_run_history.specs.declared.op_answer.OpAnswer.TheVariants.{Mid, Changed, NoLine, Channel, Creds}
use Rattle.rtc_run_history.specs.declared.op_answer.OpAnswer.TheVariants.{BadChannel as NoChannel, Alloc as OpAlloc}
use Rattle.rtc_run_history.specs.declared.made.Made.{Made}
use Rattle.rtc_run_history.specs.declared.made.Made.TheVariants.{NotAsked, Nothing, Offer, Alloc as MadeAlloc}
use Rattle.rtc_run_history.specs.declared.kept.Kept.{Kept}
use Rattle.rtc_run_history.specs.Performs.{PerformsOps, MakesOf, kept_offer}
use Rattle.rtc_run_history.specs.Sides.{same_side}
use Rattle.rtc_run_laws.proofs.NumberedChannels.{channel_numbered}
use Rattle.rtc_run_laws.proofs.NumberedTokens.{AreChangesWith, AreKeptWith, kept_more, numbers_map, numbers_more, numbers_restarted}
use Rattle.rtc_run_laws.proofs.OwnNumbers.{IsAddedNumber, IsOwnNumber, confirmed_added, made_added, made_new}

module _ {I D S M E X T W N : Type 0} (m : Meanings I D S M E X T W N) (c : Bool) where
  abbrev pub IsOwn : Peer I D S M N → ℕ → Type 0
  IsOwn p n = IsOwnNumber c n p.channels

  abbrev pub IsAdded : Peer I D S M N → ℕ → ChannelConfig → Type 0
  IsAdded p n config = IsAddedNumber c n config p.channels

  abbrev Below : Peer I D S M N → Type 0
  Below p = AreBelow p.channels.given p.channels.rows

  pub record GoesOwn (p q : Peer I D S M N) : Type 0 where
    pub below : Below p → Below q
    pub rises : p.channels.given ≤ q.channels.given
    pub least : (b : ℕ) → b ≤ p.channels.given → AreChangesWith (λ n config. b ≤ n) p.staged → AreChangesWith (λ n config. b ≤ n) q.staged
    pub numbers : (n : ℕ) (config : ChannelConfig) → IsAdded p n config → IsAdded q n config
    pub staged : Below p → AreChangesWith (IsAdded p) p.staged → AreChangesWith (IsAdded q) q.staged

  goes_on : (p b q : Peer I D S M N) → GoesOwn p b → GoesOwn b q → GoesOwn p q
  goes_on p b q h k = record {
    below = λ x. k.below (h.below x);
    rises = omega (arith, h.rises, k.rises);
    least = λ n up x. k.least n (let more = h.rises in omega (arith, up, more)) (h.least n up x);
    numbers = λ n config x. k.numbers n config (h.numbers n config x);
    staged = λ x y. k.staged (h.below x) (h.staged x y);
  }

  goes_as : (p n q : Peer I D S M N) → q ≡ n → GoesOwn p n → GoesOwn p q
  goes_as p n q is h = subst (λ (x : Peer I D S M N). GoesOwn p x) (sym is) h

  -- changes are staged that add no channel
  goes_staged : (p n q : Peer I D S M N) → q ≡ n → n.channels ≡ p.channels
      → ((P : ℕ → ChannelConfig → Type 0) → AreChangesWith P p.staged → AreChangesWith P n.staged) → GoesOwn p q
  goes_staged p n q is channels staged = goes_as p n q is (record {
    below = λ x. subst (λ (held : Channels). AreBelow held.given held.rows) (sym channels) x;
    rises = let same : n.channels.given ≡ p.channels.given = ap (λ (held : Channels). held.given) channels in omega (arith, same);
    least = λ k up x. staged (λ i config. k ≤ i) x;
    numbers = λ k config x. subst (λ (held : Channels). IsAddedNumber c k config held) (sym channels) x;
    staged = λ x y.
        staged (IsAdded n) (subst (λ (held : Channels). AreChangesWith (λ k config. IsAddedNumber c k config held) p.staged) (sym channels) y);
  })

  goes_same : (p n q : Peer I D S M N) → q ≡ n → n.channels ≡ p.channels → n.staged ≡ p.staged → GoesOwn p q
  goes_same p n q is channels staged =
      goes_staged p n q is channels (λ P x. subst (λ (l : List Change). AreChangesWith P l) (sym staged) x)

  line_goes : (change : RowChange) (to : Direction) (p : Peer I D S M N) (mid : List ℕ) (r : Result Bool AllocError) (q : Peer I D S M N)
      → ChangesLine change to p mid r q → GoesOwn p q
  line_goes change to p mid (Ok true) q h =
      goes_staged p _ q h.1 refl (λ P k. numbers_more P p.staged (Setting mid to ∷ []) k (tt, tt))
  line_goes change to p mid (Ok false) q h = goes_same p p q h.1 refl refl
  line_goes change to p mid (Err error) q h = goes_same p p q h refl refl

  app_so : (P : ℕ → ChannelConfig → Type 0) (needed : Bool) (p : Peer I D S M N) → AreChangesWith P (app_changes m p needed)
  app_so P true p = (tt, tt)
  app_so P false p = tt

  pub ops_go : (p : Peer I D S M N) (ops : List Op) (answers : List OpAnswer) (q : Peer I D S M N) → PerformsOps m p ops answers q
      → GoesOwn p q
  ops_go p [] [] q h = goes_same p p q h refl refl
  ops_go p (AddMedia kind dir ∷ ops) (Mid mid ∷ answers) q h =
      goes_on p h.0 q (goes_staged p _ h.0 h.1.1 refl (λ P k. numbers_more P p.staged _ k (tt, tt))) (ops_go h.0 ops answers q h.2)
  ops_go p (AddMedia kind dir ∷ ops) (OpAlloc ∷ []) q h = goes_same p _ q h.1 refl refl
  ops_go p (SetDirection place dir ∷ ops) (NoLine ∷ answers) q h = ops_go p ops answers q h.1
  ops_go p (SetDirection place dir ∷ ops) (Changed changed ∷ answers) q h =
      goes_on p h.0 q (line_goes (directed_row dir) dir p h.1.mid (Ok changed) h.0 h.1.called) (ops_go h.0 ops answers q h.2)
  ops_go p (SetDirection place dir ∷ ops) (OpAlloc ∷ []) q h = line_goes (directed_row dir) dir p h.mid (Err alloc_error) q h.called
  ops_go p (StopMedia place ∷ ops) (NoLine ∷ answers) q h = ops_go p ops answers q h.1
  ops_go p (StopMedia place ∷ ops) (Changed changed ∷ answers) q h =
      goes_on p h.0 q (line_goes stopped_row Inactive p h.1.mid (Ok changed) h.0 h.1.called) (ops_go h.0 ops answers q h.2)
  ops_go p (StopMedia place ∷ ops) (OpAlloc ∷ []) q h = line_goes stopped_row Inactive p h.mid (Err alloc_error) q h.called
  ops_go p (AddChannel config ∷ ops) (Channel id ∷ answers) q h =
      goes_on p h.0 q
      (goes_as p _ h.0 h.1.2
      (record {
        below = λ x. (channel_numbered config p.channels.given p.channels (with_channel p.channels config) refl refl).below x;
        numbers = λ n other x. made_added c n other p.channels config x;
        rises = omega arith;
        least = λ b up x.
            numbers_more (λ i other. b ≤ i) p.staged (app_changes m p (needs_app p) ++ AddingChannel id config ∷ []) x
            (numbers_more (λ i other. b ≤ i) (app_changes m p (needs_app p)) (AddingChannel id config ∷ []) (app_so (λ i other. b ≤ i) (needs_app p) p)
            ((let is = h.1.1 in omega (arith, up, is)), tt));
        staged = λ x y.
            numbers_more (λ n other. IsAddedNumber c n other (with_channel p.channels config)) p.staged
            (app_changes m p (needs_app p) ++ AddingChannel id config ∷ [])
            (numbers_map (IsAdded p) (λ n other. IsAddedNumber c n other (with_channel p.channels config)) p.staged
            (λ n other k. made_added c n other p.channels config k) y)
            (numbers_more (λ n other. IsAddedNumber c n other (with_channel p.channels config)) (app_changes m p (needs_app p))
            (AddingChannel id config ∷ []) (app_so (λ n other. IsAddedNumber c n other (with_channel p.channels config)) (needs_app p) p)
            (made_new c id config p.channels (sym h.1.1) x, tt));
      }))
      (ops_go h.0 ops answers q h.2)
  ops_go p (AddChannel config ∷ ops) (NoChannel ∷ answers) q h =
      goes_on p h.0 q (goes_same p p h.0 h.1.1 refl refl) (ops_go h.0 ops answers q h.2)
  ops_go p (AddChannel config ∷ ops) (OpAlloc ∷ []) q h = goes_same p _ q h.1 refl refl
  ops_go p (IceRestart keep ∷ ops) (Creds creds ∷ answers) q h =
      goes_on p h.0 q (goes_staged p _ h.0 h.1.1 refl (λ P k. numbers_restarted P creds keep p.staged k)) (ops_go h.0 ops answers q h.2)
  ops_go p (IceRestart keep ∷ ops) (OpAlloc ∷ []) q h = goes_same p _ q h.1 refl refl
  ops_go p ops answers q h = absurd h

  -- ---- what is staged is applied

  alone_numbers : (changes : List Change) (p q : Peer I D S M N) → q ≡ after_channels_alone changes p → (n : ℕ) (config : ChannelConfig) → IsAdded p n config → IsAdded q n config
  alone_numbers [] p q h n config x = subst (λ (y : Peer I D S M N). IsAdded y n config) (sym h) x
  alone_numbers (change ∷ changes) p q h n config x =
      subst (λ (y : Peer I D S M N). IsAdded y n config) (sym h) (confirmed_added c n config (fitting_channels (change ∷ changes)) p.channels x)

  lacking_numbers : (draws : Bool) (p q : Peer I D S M N) → LacksOffer m draws p q → (n : ℕ) (config : ChannelConfig) → IsAdded p n config → IsAdded q n config
  lacking_numbers true p q h n config x = subst (λ (y : Peer I D S M N). IsAdded y n config) (sym h.1) x
  lacking_numbers false p q h n config x = subst (λ (y : Peer I D S M N). IsAdded y n config) (sym h) x

  pub makes_numbers : (asked : Bool) (at : Side) (p : Peer I D S M N) (sdps : List Kept) (made : Made) (q : Peer I D S M N) (sdps' : List Kept)
      → MakesOf m asked at p sdps made q sdps' → (n : ℕ) (config : ChannelConfig) → IsAdded p n config → IsAdded q n config
  makes_numbers false at p sdps NotAsked q sdps' h n config x = subst (λ (y : Peer I D S M N). IsAdded y n config) (sym h.0) x
  makes_numbers true at p sdps Nothing q sdps' h n config x = alone_numbers p.staged p q h.0.1 n config x
  makes_numbers true at p sdps (Offer k) q sdps' h n config x = subst (λ (y : Peer I D S M N). IsAdded y n config) (sym h.1.4) x
  makes_numbers true at p sdps MadeAlloc q sdps' h n config x = lacking_numbers (draws_half (stance_of m p)) p q h.0 n config x
  makes_numbers asked at p sdps made q sdps' h n config x = absurd h

  -- and the tokens of a side
  pub makes_tokens : (asked : Bool) (at : Side) (p : Peer I D S M N) (sdps : List Kept) (made : Made) (q : Peer I D S M N) (sdps' : List Kept)
      → MakesOf m asked at p sdps made q sdps' → (x : Side) (P : ℕ → ChannelConfig → Type 0) → (same_side at x ≡ true → AreChangesWith P p.staged)
      → AreKeptWith x P sdps → AreKeptWith x P sdps'
  makes_tokens false at p sdps NotAsked q sdps' h x P staged k = subst (λ (l : List Kept). AreKeptWith x P l) (sym h.1) k
  makes_tokens true at p sdps Nothing q sdps' h x P staged k = subst (λ (l : List Kept). AreKeptWith x P l) (sym h.1) k
  makes_tokens true at p sdps (Offer n) q sdps' h x P staged k =
      subst (λ (l : List Kept). AreKeptWith x P l) (sym h.2)
      (kept_more x P sdps (kept_offer at h.0) k
      (λ e. subst (λ (l : List Change). AreChangesWith P l) (sym (ap (λ (token : PendingOffer). token.changes) h.1.2)) (staged e)))
  makes_tokens true at p sdps MadeAlloc q sdps' h x P staged k = subst (λ (l : List Kept). AreKeptWith x P l) (sym h.1) k
  makes_tokens asked at p sdps made q sdps' h x P staged k = absurd h
