use Rattle.returns.specs.Mended.{page-put}
use Rattle.returns.proofs.page_out.Goals as goal

pub returns : goal.returns
returns c = page-put c.args.page.now _ c.zeros-bytes.result c.zeros-bytes.ensures c.copy.ensures
