use Rattle.std.proofs.Common.{◌≡◌, ◌≤◌, ◌-◌, [], true}
use Rattle.rtc_sctp.specs.Rest.{AreTended}
use Rattle.rtc_sctp.specs.TourSteps.{WalkLeft}
use Rattle.rtc_sctp.proofs.walk.visit_all.Given as goal

abbrev pub invariant-streams : goal.invariant-streams
invariant-streams g l = record {
  within : l.from ≤ 65536;
  started : g.S.Association.association.started l.association ≡ true;
  quiet : g.S.Association.association.due l.association ≡ [];
  tended : AreTended g.S.Association.association l.association l.entries.items l.agenda;
  left : WalkLeft g.S.Association.association l.now l.fn.entries.items l.fn.association l.fn.resets.items l.from l.entries.items l.association l.resets.items;
}

abbrev pub decreases-streams : goal.decreases-streams
decreases-streams g l = 65536 - l.from
