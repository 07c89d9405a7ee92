use Rattle.std.proofs.Common.{ap, []}
use Rattle.prefix_digest.specs.MapOf.{root_digest}
use Rattle.prefix_digest.specs.Page.{digest_at}
use Rattle.prefix_digest.proofs.MapsOf.{same_map_of}
use Rattle.prefix_digest.proofs.laws.same_operations_have_same_digests.Goals as goal

pub returns-clause-prefixes : goal.returns-clause-prefixes
returns-clause-prefixes c = λ hash_of S T prefix once same. ap (λ m. digest_at hash_of m prefix) (same_map_of S T once same)

pub returns-clause-root : goal.returns-clause-root
unfolding root_digest
returns-clause-root c = λ hash_of S T once same. ap (λ m. digest_at hash_of m []) (same_map_of S T once same)
