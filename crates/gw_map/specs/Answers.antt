-- What functions see that read whole sections.
use Rattle.std.specs.Prelude.{List, map, String}
use Rattle.std.specs.BTreeMap.{BTreeMap}
use Rattle.std.specs.Borrow.{Bor}
use Rattle.std.specs.declared.alloc.Global.{Global}
use Rattle.toml.specs.View.{table_view}
use Rattle.toml.specs.declared.value.Value.{Value}
use Rattle.toml.specs.Data.{Members}

-- tables behind references
abbrev pub seen : List (Bor (BTreeMap (String Global) Value)) → List Members
seen tables = map (λ t. table_view t.now) tables
