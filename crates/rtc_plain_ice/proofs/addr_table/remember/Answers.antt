use Rattle.std.proofs.Common.{List, ap, ◌∙◌}
use Rattle.indexmap.specs.IndexSet.{insert_key}
use Rattle.rtc_plain_ice.specs.declared.addr_key.AddrKey.{AddrKey}
use Rattle.rtc_plain_ice.specs.PlaceTables.{same_addr_key, addrs_of}
use Rattle.rtc_plain_ice.proofs.PlaceTableLemmas.{address_kept, if_ok}
use Rattle.rtc_plain_ice.proofs.addr_table.remember.Goals as goal

pub returns : goal.returns
returns c =
    let keys = c.args.addresses.now.keys in
    ap (λ (ks : List AddrKey). addrs_of ks) (if_ok _ _ (c.insert.ensures.succeeds c.requires) c.insert.ensures.keys)
    ∙ ap (λ (key : AddrKey). addrs_of (insert_key same_addr_key keys key)) c.new-key.ensures
    ∙ address_kept c.args.a keys
