pub mod PointLaws
pub mod NearestPoints
