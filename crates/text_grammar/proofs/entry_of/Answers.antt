-- `entry_of` meets its contract: each array is a column of the table.
use Rattle.text_grammar.proofs.TableLaws.{column, column_at_lem}
use lib.ListN.{length}
use Rattle.text_grammar.specs.Groups.{group_count, base_at}
use Rattle.text_grammar.proofs.entry_of.Goals as goal

pub returns : goal.returns
returns c = record {
  fields = column (λ g. length g.dashes) c.args.k;
  place = column (λ g. g.place) c.args.k;
  least = column (λ g. g.least) c.args.k;
  most = column (λ g. g.most) c.args.k;
  width = column (λ g. g.width) c.args.k;
  room = column (λ g. g.room) c.args.k;
  base = column_at_lem group_count base_at c.args.k c.requires;
}
