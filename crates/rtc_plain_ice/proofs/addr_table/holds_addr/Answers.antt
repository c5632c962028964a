use Rattle.std.proofs.Common.{ap, ◌∙◌}
use Rattle.indexmap.specs.IndexSet.{contains}
use Rattle.rtc_plain_ice.specs.declared.addr_key.AddrKey.{AddrKey}
use Rattle.rtc_plain_ice.specs.PlaceTables.{same_addr_key}
use Rattle.rtc_plain_ice.proofs.PlaceTableLemmas.{address_found}
use Rattle.rtc_plain_ice.proofs.addr_table.holds_addr.Goals as goal

pub returns : goal.returns
returns c =
    c.contains.ensures
    ∙ ap (λ (key : AddrKey). contains same_addr_key c.args.addresses.now key) c.new-key.ensures
    ∙ address_found c.args.a.now c.args.addresses.now.keys
