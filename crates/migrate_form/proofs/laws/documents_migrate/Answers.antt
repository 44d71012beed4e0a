use Rattle.migrate_form.proofs.laws.documents_migrate.Goals as goal
use Rattle.migrate_form.proofs.MigratedDocuments.{documents_migrate}

pub returns : goal.returns
returns c = documents_migrate
