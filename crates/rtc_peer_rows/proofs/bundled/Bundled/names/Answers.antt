use Rattle.std.proofs.Common.{◌∙◌, sym}
use Rattle.rtc_peer_rows.proofs.NamedLemmas.{named_is_bundled}
use Rattle.rtc_peer_rows.proofs.bundled.Bundled.names.Goals as goal

pub returns-in-Some : goal.returns-in-Some
returns-in-Some c =
    let held = rw c.in-Some.is at c.self.invariant in
    rw (sym c.self.view_is) (c.contains.ensures ∙ (held c.args.mid ∙ named_is_bundled c.self.inside.groups.now c.args.mid))
