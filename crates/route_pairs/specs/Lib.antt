pub mod RouteOrder
pub mod RoutePairs
