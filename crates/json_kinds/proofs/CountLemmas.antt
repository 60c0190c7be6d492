-- The counts of members, under names that an attribute can cite.
use Rattle.std.proofs.Common.{◌≡◌, List, length}
use Rattle.serde_json.specs.Events.{items_len, members_len}
use Rattle.serde_json.specs.View.{items_view, members_view}
use Rattle.serde_json.specs.declared.value.Value.{Value}
use Rattle.serde_json.proofs.Views.{Entry, items_len-items_view, members_len-members_view}

pub items_count : (vs : List Value) → items_len (items_view vs) ≡ length vs
items_count vs = items_len-items_view vs

pub members_count : (es : List Entry) → members_len (members_view es) ≡ length es
members_count es = members_len-members_view es
