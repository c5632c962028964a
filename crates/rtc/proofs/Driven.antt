-- A drain, turn by turn.
use Rattle.std.proofs.Common.{◌≡◌, ◌≤◌, ◌-◌, ◌^◌, ◌+◌, ℕ, List, [], ◌∷◌, length, Result, Ok, Err, refl, subst, arith}
use Rattle.rtc_peer_core.specs.Meanings.{Meanings}
use Rattle.rtc_peer_core.specs.declared.rtc_error.RtcError.{RtcError}
use Rattle.rtc_peer_transport.specs.declared.output.Output.{Output}
use Rattle.rtc_peer_transport.specs.declared.polled_peer.PolledPeer.{PolledPeer}
use Rattle.rtc_peer_polling.specs.Walk.{PollsPeer}
use Rattle.rtc.specs.Drives.{handed_by, TakesOutput, HandsOutput, HandsNext, SinkFails, HandedOver, Waits, Fails, HasMore, DrainsInto}
use Rattle.rtc.specs.SinkMeaning.{SinkMeaning}
use Rattle.rtc.specs.declared.handed.Handed.{Handed}
use Rattle.rtc.specs.declared.handed.Handed.TheVariants.{More, Until, Failed}

abbrev no_outputs : {E : Type 0} → List (Output E)
no_outputs = []

module _ {K E : Type 0} (sink : SinkMeaning K E) where
  -- what the sink answered to an output
  pub hands_taken : (output : Output E) (a : K) (taken : Result (Unit {0}) RtcError) (b : K) (handed : Handed) → handed ≡ handed_by taken
      → TakesOutput sink output a taken b → HandsOutput sink output a handed b
  hands_taken output a (Ok done) b handed is takes = rw is takes
  hands_taken output a (Err error) b handed is takes = rw is takes

module _ {I D S M E X T W N K : Type 0} (m : Meanings I D S M E X T W N) (sink : SinkMeaning K E) where
  -- one poll that gave an output
  pub hands_next : (p : PolledPeer I D S M N) (a : K) (output : Output E) (handed : Handed) (q : PolledPeer I D S M N) (b : K)
      → PollsPeer m p (Ok output) q → HandsOutput sink output a handed b → HandsNext m sink p a handed q b
  hands_next p a output More q b polls takes = (output, polls, takes)
  hands_next p a output (Until moment) q b polls is = (subst (λ (given : Output E). PollsPeer m p (Ok given) q) is.0 polls, is.1)
  hands_next p a output (Failed error) q b polls takes = SinkFails output polls takes

  -- the sink took an output in each turn so far
  pub record HandsSoFar (turns : ℕ) (p : PolledPeer I D S M N) (a : K) (q : PolledPeer I D S M N) (b : K) : Type 0 where
    pub outputs : List (Output E)
    pub handed : HandedOver m sink outputs p a q b
    pub count : length outputs ≡ turns

  pub hands_none : (p : PolledPeer I D S M N) (a : K) → HandsSoFar 0 p a p a
  hands_none p a = record { outputs = no_outputs; handed = (refl, refl); count = refl }

  pub hands_more : (turns : ℕ) (p : PolledPeer I D S M N) (a : K) (between : PolledPeer I D S M N) (held : K) (q : PolledPeer I D S M N) (b : K)
      → HandsSoFar turns p a between held → HandsNext m sink between held More q b → HandsSoFar (turns + 1) p a q b
  hands_more turns p a between held q b so next = record {
    outputs = next.0 ∷ so.outputs;
    handed = (between, held, so.handed, next.1, next.2);
    count = omega (arith, so.count);
  }

  pub drain_waits : (now turns moment : ℕ) (p : PolledPeer I D S M N) (a : K) (last : PolledPeer I D S M N) (held : K) (q : PolledPeer I D S M N) (b : K)
      → HandsSoFar turns p a last held → HandsNext m sink last held (Until moment) q b → DrainsInto m sink now p a (Ok moment) q b
  drain_waits now turns moment p a last held q b so next = record {
    outputs = so.outputs;
    last = last;
    held = held;
    handed = so.handed;
    ends = Waits moment refl next.0 next.1;
  }

  pub drain_fails : (now turns : ℕ) (error : RtcError) (p : PolledPeer I D S M N) (a : K) (last : PolledPeer I D S M N) (held : K) (q : PolledPeer I D S M N) (b : K)
      → HandsSoFar turns p a last held → HandsNext m sink last held (Failed error) q b → DrainsInto m sink now p a (Err error) q b
  drain_fails now turns error p a last held q b so next = record {
    outputs = so.outputs;
    last = last;
    held = held;
    handed = so.handed;
    ends = Fails error refl next;
  }

  pub drain_goes_on : (now turns : ℕ) (p : PolledPeer I D S M N) (a : K) (q : PolledPeer I D S M N) (b : K)
      → HandsSoFar turns p a q b → 2 ^ 64 - 1 ≤ turns → DrainsInto m sink now p a (Ok now) q b
  drain_goes_on now turns p a q b so most = record {
    outputs = so.outputs;
    last = q;
    held = b;
    handed = so.handed;
    ends = HasMore (omega (arith, so.count, most)) refl refl refl;
  }
